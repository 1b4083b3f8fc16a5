-- "Where to cut", in both editions: one rule for every kind of table, over the items' costs alone. Assumes nothing.
use Rattle.std.specs.Prelude.{ℕ, zero, suc, ◌+◌, Bool, cond, ◌&&◌, ◌||◌, List, [], ◌∷◌, ◌++◌, leb, ltb, eqb}

-- what the rule asks of a table: the edition; its items; the sum before the first; the items that are not empty; the cost of item i where what the items
-- from a on reach counts as seen; and what coverage and class definitions take for the items from a to i
pub record Rule : Type 0 where
  pub edition : ℕ
  pub count : ℕ
  pub start : ℕ
  pub full : ℕ → Bool
  pub cost : ℕ → ℕ → ℕ
  pub beside : ℕ → ℕ → ℕ

-- while cutting: the first item of the table being filled, the item from which objects count as seen, the sum, and the cuts
pub record Cutting : Type 0 where
  pub first : ℕ
  pub seen : ℕ
  pub sum : ℕ
  pub cuts : List ℕ

-- ---- "Edition 2 differs in three ways"

-- the edition is the second
abbrev pub second : ℕ → Bool
second e = eqb e 2

-- "S(i) at a cut stays as it was measured before the cut"; in edition 2 "the item at a cut is measured again with nothing seen"
unfoldable pub cost_at_cut : Rule → ℕ → ℕ → ℕ
cost_at_cut r i cost = cond (second r.edition) (r.cost i i) cost

-- "nothing is counted as seen", so objects count from i + 1 on; in edition 2 "what it reaches counts as seen after"
unfoldable pub seen_from : ℕ → ℕ → ℕ
seen_from e i = cond (second e) i (i + 1)

-- "An empty slot adds nothing."; in edition 2 it "is tested for a cut as any other"
unfoldable pub looked : ℕ → (ℕ → Bool) → ℕ → Bool
looked e full i = second e || full i

-- "p0 may be 0"; in edition 2 "there is never a cut at item 0"
unfoldable pub least_cut : ℕ → ℕ
least_cut e = cond (second e) 1 0

-- ---- what both share

-- the sum with item i, and coverage and class definitions, "exceeds 65,535" ("At 65,536 or more")
unfoldable pub exceeds : Rule → Cutting → ℕ → ℕ → Bool
exceeds r c i cost = ltb 65535 (c.sum + cost + r.beside c.first i)

-- a cut is due at item i
unfoldable pub cut_due : Rule → Cutting → ℕ → ℕ → Bool
cut_due r c i cost = exceeds r c i cost && leb (least_cut r.edition) i

-- "cut at i; sum = ..": the start and the item's cost
unfoldable pub cut_here : Rule → Cutting → ℕ → ℕ → Cutting
cut_here r c i cost = record { first = i; seen = seen_from r.edition i; sum = r.start + cost_at_cut r i cost; cuts = c.cuts ++ (i ∷ []) }

-- no cut: "sum += .."
unfoldable pub go_on : Cutting → ℕ → Cutting
go_on c cost = record { first = c.first; seen = c.seen; sum = c.sum + cost; cuts = c.cuts }

-- item i, which is looked at
unfoldable pub weigh : Rule → Cutting → ℕ → ℕ → Cutting
weigh r c i cost = cond (cut_due r c i cost) (cut_here r c i cost) (go_on c cost)

-- one item
unfoldable pub step : Rule → Cutting → ℕ → Cutting
step r c i = cond (looked r.edition r.full i) (weigh r c i (r.cost c.seen i)) c

-- the items below k
unfoldable pub after : Rule → ℕ → Cutting
after r zero = record { first = 0; seen = 0; sum = r.start; cuts = [] }
after r (suc k) = step r (after r k) k

-- "Cuts p0 < p1 < ..."
unfoldable pub cuts_of : Rule → List ℕ
cuts_of r = (after r r.count).cuts

-- all of this file's definitions, for checks that compute
unfoldable pub computes : Unit {0}
unfolding cost_at_cut seen_from looked least_cut exceeds cut_due cut_here go_on weigh step after cuts_of
computes = tt
