-- An outcome says every number that a call leaves: no second exit has it. Assumes nothing.
use Prim.Native.Nat.{ℕ, zero, suc, ◌<◌}
use mathlib.Core.Path.{◌≡◌, sym, ap, ◌∙◌}
use mathlib.Core.List.{List}
use native.Mathlib.Omega.{arith}
use lib.ListN.{length, get_or}
use lib.Seq.{ext_get_or}
use Rattle.store_rules.specs.Store.{Store}
use Rattle.call_rules.specs.Scratch.{Scratch}
use Rattle.call_rules.specs.Outcomes.{Outcome}
use Rattle.promise_calls.specs.Exits.{Exit, outcome_of, Same}
use Rattle.promise_calls.specs.Unchanged.{Unchanged}

-- three numbers are known by their places
pub three_same : (c d : List ℕ) → length c ≡ 3 → length d ≡ 3 → get_or c 0 0 ≡ get_or d 0 0 → get_or c 1 0 ≡ get_or d 1 0 → get_or c 2 0 ≡ get_or d 2 0 → c ≡ d
three_same c d h k p q r = ext_get_or 0 c d (h ∙ sym k) at_place
  where
    at_place : (i : ℕ) → i < length c → get_or c i 0 ≡ get_or d i 0
    at_place zero l = p
    at_place (suc zero) l = q
    at_place (suc (suc zero)) l = r
    at_place (suc (suc (suc i))) l = absurd (omega (arith, h))

-- an outcome says every number
same_exit : (x y : Exit) → outcome_of x ≡ outcome_of y → Same x y
same_exit x y e =
    record {
      answer = ap (λ (o : Outcome). o.answer) e;
      count = ap (λ (o : Outcome). o.count) e;
      «data» = ap (λ (o : Outcome). o.store.bytes) e;
      objects = ap (λ (o : Outcome). o.store.objects) e;
      links = ap (λ (o : Outcome). o.store.links) e;
      counts =
          three_same x.counts y.counts x.three y.three
          (ap (λ (o : Outcome). o.store.byte_count) e) (ap (λ (o : Outcome). o.store.object_count) e) (ap (λ (o : Outcome). o.store.link_count) e);
      list = ap (λ (o : Outcome). o.list) e;
      walk = ap (λ (o : Outcome). o.scratch.walk) e;
      glyph_set = ap (λ (o : Outcome). o.scratch.set) e;
      glyphs = ap (λ (o : Outcome). o.scratch.glyphs) e;
      classes = ap (λ (o : Outcome). o.scratch.classes) e;
      cuts = ap (λ (o : Outcome). o.scratch.cuts) e;
    }

-- two exits that both have the outcome o
pub one_exit : (x y : Exit) (o : Outcome) → outcome_of x ≡ o → outcome_of y ≡ o → Same x y
one_exit x y o p q = same_exit x y (p ∙ sym q)

-- outcomes with the same parts
pub same_outcome : (x y : Outcome) → x.answer ≡ y.answer → x.count ≡ y.count → x.store ≡ y.store → x.list ≡ y.list → x.scratch ≡ y.scratch → x ≡ y
same_outcome x y a c s l w = λ i. record { answer = a i; count = c i; store = s i; list = l i; scratch = w i }

-- with the same answer, two that leave everything as it came
pub one_unchanged : (s : Store) (w : Scratch) (list : List ℕ) (x y : Outcome) → x.answer ≡ y.answer → Unchanged s w list x → Unchanged s w list y → x ≡ y
one_unchanged s w list x y a p q =
    same_outcome x y a
    (p.none_new ∙ sym q.none_new) (p.same_store ∙ sym q.same_store) (p.same_list ∙ sym q.same_list) (p.zero_scratch ∙ sym q.zero_scratch)
