-- The demands speak of something under either edition: a store of bytes with a table that a call splits. And bytes are needed: without them a new table may be
-- unreadable. Assumes nothing.
use Rattle.std.specs.Prelude.{Option, Some, None}
use Prim.Native.Nat.{ℕ, ◌*◌}
use mathlib.Core.Path.{◌≡◌, refl}
use mathlib.Core.Bool.{true}
use mathlib.Core.List.{List, [], ◌∷◌, ◌++◌}
use mathlib.Core.Logic.{⊎_elim}
use native.Mathlib.Omega.{arith}
use lib.ListN.{replicate, get_or, get_or-eq_default, length}
use lib.Dec.{ltb}
use borrow.Author.Tests.{ltb-true}
use Rattle.folds.proofs.Tests.{either}
use Rattle.folds.proofs.Table.{every, rule_at}
use Rattle.ot_layouts.specs.Numbers.{words, be16}
use Rattle.folds.proofs.Bytes.{bytes_append, bytes_zeros}
use Rattle.folds.specs.Lists.{Bytes}
use Rattle.store_rules.specs.Appended.{link, row_numbers}
use Rattle.store_rules.specs.Store.{Store, per_link}
use Rattle.pair_rules.specs.Table.{cut_places}
use Rattle.call_rules.specs.declared.Settings.{Settings}
use Rattle.call_rules.specs.Settings.{first_edition, second_edition, known}
use Rattle.call_rules.specs.Scratch.{Scratch, scratch_of}
use Rattle.call_rules.specs.Outcomes.{Outcome}
use Rattle.pair_rules.specs.Calls.{split_call, pair_cases}
use Rattle.call_rules.specs.Answers.{first_case}
use Rattle.pair_rules.specs.Computing.{computes}
use Rattle.promise_calls.specs.Unchanged.{Octets}
use Rattle.promise_pairs.specs.Demands.{Splits, store_then, AllAfresh}
use Rattle.call_rules.proofs.KnownSettings.{in_either}
use Rattle.promise_witnesses.proofs.HeldToACall.{seen_of, answers, counts}

-- each number was looked at
pub small_bytes : (xs : List ℕ) → every (λ i x. ltb x 256) 0 xs ≡ true → Bytes xs
small_bytes xs e i =
    ⊎_elim
    (λ lt. ltb-true (get_or xs i 0) 256 (rule_at (λ i x. ltb x 256) 0 xs e i lt))
    (λ ge. omega (arith, get_or-eq_default xs 0 ge))
    (either i (length xs))

-- ---- a call that splits in two, by either edition: three slots under a coverage of three glyphs, with room; each has a set without records that leads to 40,000
-- bytes, the first and the last the same one

unfoldable pub slots_front : List ℕ
slots_front = words (1 ∷ 0 ∷ 0 ∷ 0 ∷ 3 ∷ 0 ∷ 0 ∷ 0 ∷ 1 ∷ 3 ∷ 10 ∷ 20 ∷ 30 ∷ 0 ∷ 0 ∷ [])

-- objects: table 16, coverage 10, two sets of 2, and two of 40,000
unfoldable pub three_slots : Store
three_slots =
    record {
      bytes = slots_front ++ replicate 80042 0;
      objects = 0 ∷ 16 ∷ 16 ∷ 26 ∷ 26 ∷ 28 ∷ 28 ∷ 30 ∷ 30 ∷ 40030 ∷ 40030 ∷ 80030 ∷ replicate 10 0;
      links = row_numbers (link 0 2 1 ∷ link 0 10 2 ∷ link 0 12 3 ∷ link 0 14 2 ∷ link 2 0 4 ∷ link 3 0 5 ∷ []) ++ replicate (per_link * 2) 0;
      byte_count = 80030;
      object_count = 6;
      link_count = 6;
    }

unfoldable pub slots_scratch : Scratch
slots_scratch = scratch_of (replicate 12 0) (replicate 8192 0) (replicate 3 0) (replicate 3 0) (replicate 3 0)

pub slots_octets : Octets three_slots
unfolding three_slots slots_front words be16
slots_octets = bytes_append slots_front (replicate 80042 0) (small_bytes slots_front refl) (bytes_zeros 80042)

abbrev pub two_list : List ℕ
two_list = 0 ∷ 0 ∷ []

-- the call
abbrev pub left : Settings → Outcome
left how = split_call how three_slots 0 slots_scratch two_list

first_seen : seen_of three_slots (left first_edition) ≡ 0 ∷ 2 ∷ 11 ∷ 1 ∷ 0 ∷ []
unfolding three_slots slots_front slots_scratch computes seen_of
first_seen = refl

second_seen : seen_of three_slots (left second_edition) ≡ 0 ∷ 2 ∷ 11 ∷ 1 ∷ 0 ∷ []
unfolding three_slots slots_front slots_scratch computes seen_of
second_seen = refl

pub slots_seen : (how : Settings) → known how ≡ true → seen_of three_slots (left how) ≡ 0 ∷ 2 ∷ 11 ∷ 1 ∷ 0 ∷ []
slots_seen how = in_either how (λ how. seen_of three_slots (left how) ≡ 0 ∷ 2 ∷ 11 ∷ 1 ∷ 0 ∷ []) first_seen second_seen

-- so there is something of which the demands speak
pub slots_split : (how : Settings) → known how ≡ true → Splits how three_slots 0 slots_scratch two_list
slots_split how is_known =
    let seen = slots_seen how is_known in
    let count = counts three_slots 0 slots_scratch two_list (left how) 11 seen in
    record { answers = answers three_slots 0 slots_scratch two_list (left how) 11 seen; cuts = omega arith }

-- ---- no bytes, no promise: a table whose coverage has the one glyph 65,536, of class 1

unfoldable pub wild_front : List ℕ
wild_front = words (1 ∷ 1 ∷ 65536 ∷ 2 ∷ 1 ∷ 65536 ∷ 65536 ∷ 1 ∷ 2 ∷ 0 ∷ 2 ∷ 0 ∷ 4 ∷ 0 ∷ 0 ∷ 0 ∷ 170 ∷ 200 ∷ [])

-- objects: coverage 6, class definition 1 10, class definition 2 4, table 68,016
unfoldable pub wild : Store
wild =
    record {
      bytes = wild_front ++ replicate 76000 0;
      objects = 0 ∷ 6 ∷ 6 ∷ 16 ∷ 16 ∷ 20 ∷ 20 ∷ 68036 ∷ replicate 10 0;
      links = row_numbers (link 3 2 0 ∷ link 3 8 1 ∷ link 3 10 2 ∷ []) ++ replicate (per_link * 3) 0;
      byte_count = 68036;
      object_count = 4;
      link_count = 3;
    }

unfoldable pub wild_scratch : Scratch
wild_scratch = scratch_of (replicate 8 0) (replicate 8192 0) (0 ∷ []) (0 ∷ []) (replicate 170 0)

-- answer, count, and what a reading of the kept table then refuses by: in one list, so that the call is computed once
unfoldable pub seen : Outcome → List (Option ℕ)
seen o = Some o.answer ∷ Some o.count ∷ first_case (pair_cases o.store 3) ∷ []

-- its class definition 1 is unreadable
wild_seen : seen (split_call first_edition wild 3 wild_scratch (0 ∷ [])) ≡ Some 0 ∷ Some 1 ∷ Some 4 ∷ []
unfolding wild wild_front wild_scratch computes seen
wild_seen = refl

pub not_without_bytes :
    ((how : Settings) (s : Store) (t : ℕ) (w : Scratch) (list : List ℕ) → Splits how s t w list → AllAfresh s t (store_then how s t w list) (cut_places how s t))
    → ⊥
unfolding seen
not_without_bytes h =
    let answer : (split_call first_edition wild 3 wild_scratch (0 ∷ [])).answer ≡ 0 = cc wild_seen in
    let count : (split_call first_edition wild 3 wild_scratch (0 ∷ [])).count ≡ 1 = cc wild_seen in
    let splits : Splits first_edition wild 3 wild_scratch (0 ∷ []) = record { answers = answer; cuts = omega arith } in
    let r : first_case (pair_cases (store_then first_edition wild 3 wild_scratch (0 ∷ [])) 3) ≡ None = (h first_edition wild 3 wild_scratch (0 ∷ []) splits).kept.readable in
    let y : ◌≡◌ {A = ℕ} 0 1 = cc wild_seen in omega arith
