-- "What edition 2 guarantees.": of a list of cuts, and of the store that a split of table t at these cuts leaves. Assumes nothing.
use Rattle.std.specs.Prelude.{ℕ, ◌≤◌, ◌≡◌, Bool, true, List, [], ◌∷◌, length}
use Rattle.folds.specs.Lists.{among}
use Rattle.store_rules.specs.Store.{Store}
use Rattle.cut_rules.specs.Measure.{within_limit}
use Rattle.cut_rules.specs.Places.{places_ascend}
use Rattle.call_rules.specs.Settings.{second_edition}
use Rattle.pair_rules.specs.Table.{shape, rule_of, cut_places}
use Rattle.pair_rules.specs.Written.{split_store, new_tables}
use Rattle.pair_fits.specs.Together.{sets_together, rows_together}

-- each table that these cuts make of table t is "within the limit by edition 2"
unfoldable pub within_by2 : Store → ℕ → List ℕ → Bool
within_by2 s t cs = within_limit (rule_of second_edition s t) cs

-- "No choice of fewer cuts has that property by edition 2's estimate.": of all lists of places, those that cut at 0 too
abbrev pub FewestCuts : Store → ℕ → Type 0
FewestCuts s t = (cs : List ℕ) → places_ascend 0 (shape s t).count cs ≡ true → within_by2 s t cs ≡ true → length (cut_places second_edition s t) ≤ length cs

-- this holds of each of the resulting tables, the kept one and the new ones, in the store after the split
abbrev pub OfResulting : Store → ℕ → List ℕ → (Store → ℕ → Type 0) → Type 0
OfResulting s t cs P = (u : ℕ) → among u (t ∷ new_tables s t cs) ≡ true → P (split_store s t cs) u

-- format 1: table u "with two or more items, together with its coverage and all that its pair sets reach, is at most 65,535 bytes"
abbrev pub SetsFitIn : Store → ℕ → Type 0
SetsFitIn s u = 2 ≤ (shape s u).count → sets_together s u ≤ 65535

abbrev pub SetsFit : Store → ℕ → List ℕ → Type 0
SetsFit s t cs = OfResulting s t cs SetsFitIn

-- format 2, beyond document 02: with two or more rows it is, together with all that its rows reach and with its parts but for the largest
abbrev pub RowsFitIn : Store → ℕ → Type 0
RowsFitIn s u = 2 ≤ (shape s u).count → rows_together s u ≤ 65535

abbrev pub RowsFit : Store → ℕ → List ℕ → Type 0
RowsFit s t cs = OfResulting s t cs RowsFitIn

-- "in both PairPos formats, splitting any of the resulting tables again, scratch being enough, adds nothing": there is no place to cut it at
abbrev pub AgainUncut : Store → ℕ → List ℕ → Type 0
AgainUncut s t cs = OfResulting s t cs (λ s' u. cut_places second_edition s' u ≡ [])

-- all of this file's definitions, for checks that compute
unfoldable pub computes : Unit {0}
unfolding within_by2
computes = tt
