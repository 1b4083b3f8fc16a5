-- "applying a type 2 lookup .. to any pair": what a lookup gives for two glyphs. Assumes nothing.
use Rattle.std.specs.Prelude.{ℕ, Bool, List}
use Rattle.store_rules.specs.Store.{Store, link_at, offset_of}
use Rattle.store_rules.specs.Reach.{marked, reached}
use Rattle.pair_rules.specs.Calls.{PairOutcome, read_in_order}
use Rattle.lookup_rules.specs.Listed.{linked_in, subtable_slots}

-- the subtables of lookup p, in order: those with a link
abbrev pub subtables : Store → ℕ → List ℕ
subtables s p = linked_in (subtable_slots s p)

-- what lookup p gives for glyphs a and b: "the first subtable with a pair deciding"; one that the pair reading refuses, or of another format, has no pair
unfoldable pub applied : Store → ℕ → ℕ → ℕ → PairOutcome
applied s p a b = read_in_order s (subtables s p) a b

-- object u "reaches" object t, along any links; `on_cycle` of t is that t reaches itself
unfoldable pub reaches : Store → ℕ → ℕ → Bool
reaches s u t = marked (reached s (λ k. offset_of u (link_at s k))) t

-- all of this file's definitions, for checks that compute
unfoldable pub computes : Unit {0}
unfolding applied reaches
computes = tt
