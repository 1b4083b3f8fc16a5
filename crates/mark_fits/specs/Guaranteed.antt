-- What edition 2 guarantees of mark-to-base tables, beyond document 02: of a list of cuts, and of the store that a split of table t at these cuts leaves.
-- Assumes nothing.
use Rattle.std.specs.Prelude.{ℕ, ◌≤◌, ◌≡◌, Bool, true, List, [], ◌∷◌, length}
use Rattle.folds.specs.Lists.{among}
use Rattle.store_rules.specs.Store.{Store}
use Rattle.cut_rules.specs.Measure.{within_limit}
use Rattle.cut_rules.specs.Places.{places_ascend}
use Rattle.call_rules.specs.Settings.{second_edition}
use Rattle.mark_rules.specs.Table.{classes_of, rule_of, cut_places}
use Rattle.mark_rules.specs.Written.{split_store, new_tables}
use Rattle.mark_fits.specs.Together.{marks_together}

-- each table that these cuts make of table t is "within the limit by edition 2"
unfoldable pub within_by2 : Store → ℕ → List ℕ → Bool
within_by2 s t cs = within_limit (rule_of second_edition s t) cs

-- no list of places with fewer cuts is, of those that cut at 0 too
abbrev pub FewestCuts : Store → ℕ → Type 0
FewestCuts s t = (cs : List ℕ) → places_ascend 0 (classes_of s t) cs ≡ true → within_by2 s t cs ≡ true → length (cut_places second_edition s t) ≤ length cs

-- this holds of each of the resulting tables, the kept one and the new ones, in the store after the split
abbrev pub OfResulting : Store → ℕ → List ℕ → (Store → ℕ → Type 0) → Type 0
OfResulting s t cs P = (u : ℕ) → among u (t ∷ new_tables s t cs) ≡ true → P (split_store s t cs) u

-- table u with two or more classes is, together with its parts and all that its anchors reach, at most 65,535 bytes
abbrev pub MarksFitIn : Store → ℕ → Type 0
MarksFitIn s u = 2 ≤ classes_of s u → marks_together s u ≤ 65535

abbrev pub MarksFit : Store → ℕ → List ℕ → Type 0
MarksFit s t cs = OfResulting s t cs MarksFitIn

-- splitting any of the resulting tables again adds nothing: there is no class to cut it at
abbrev pub AgainUncut : Store → ℕ → List ℕ → Type 0
AgainUncut s t cs = OfResulting s t cs (λ s' u. cut_places second_edition s' u ≡ [])

-- all of this file's definitions, for checks that compute
unfoldable pub computes : Unit {0}
unfolding within_by2
computes = tt
