-- The demands hold of what a call leaves whose outcome is that of `lookup_rules`, and no second outcome satisfies them. Assumes nothing.
use Prim.Native.Nat.{ℕ}
use mathlib.Core.Path.{◌≡◌, refl, sym, subst, ◌∙◌}
use mathlib.Core.List.{List}
use Rattle.store_rules.specs.Store.{Store}
use Rattle.call_rules.specs.declared.Settings.{Settings}
use Rattle.call_rules.specs.Scratch.{Scratch}
use Rattle.call_rules.specs.Outcomes.{Outcome, done}
use Rattle.pair_rules.specs.Table.{cut_places}
use Rattle.lookup_rules.specs.Calls.{lookup_cases, lookup_call, enter_ahead}
use Rattle.promise_calls.specs.Unchanged.{Octets}
use Rattle.promise_calls.specs.Exits.{Exit, outcome_of, Same}
use Rattle.promise_calls.proofs.Keeps.{call_keeps, call_decided}
use Rattle.promise_calls.proofs.Unique.{one_exit}
use Rattle.promise_lookups.specs.Exactly.{MayEnter}
use Rattle.promise_lookups.specs.Calls.{EnterLeaves, LookupKeeps}
use Rattle.promise_lookups.proofs.Exactly.{no_case_enters, enters_no_case}
use Rattle.promise_lookups.proofs.Answered.{may_enters, enters_as_many, store_entered_lem}
use Rattle.promise_lookups.proofs.StaysSound.{stays_sound_entered, stays_octets_entered}
use Rattle.promise_lookups.proofs.Kept.{others_redirected, orders_redirected, lookups_written}
use Rattle.promise_lookups.proofs.WrittenAfresh.{entered_afresh}
use Rattle.promise_lookups.proofs.LookupsKept.{lookups_kept}
use Rattle.promise_lookups.proofs.AgainNothing.{again_no_entry}

-- ---- what is promised holds

module _ (how : Settings) (s : Store) (l t : ℕ) (w : Scratch) (list : List ℕ) where
  leaves : Octets s → MayEnter how s l t w list → EnterLeaves how s l t list (lookup_call how s l t w list)
  leaves octets m =
      let p = may_enters how s l t w list m in
      let (many, listed) = enters_as_many how s l t w list p in
      record {
        answers = p.answers;
        count = many;
        tables = listed;
        written = store_entered_lem how s l t w list p;
        lookups = lookups_kept how s l t w list octets p;
        new = lookups_written how s l t w list p;
        afresh = entered_afresh how s l t w list octets p;
        others = others_redirected how s l t w list p;
        orders = orders_redirected how s l t w list p;
        again = again_no_entry how s l t w list octets p;
        sounds = stays_sound_entered how s l t w list p;
        octets = stays_octets_entered how s l t w list octets p;
      }

  kept : Octets s → LookupKeeps how s l t w list (lookup_call how s l t w list)
  unfolding lookup_call done
  kept octets =
      call_keeps (lookup_cases how s l t w list) (MayEnter how s l t w list) (no_case_enters how s l t w list) (enters_no_case how s l t w list) (EnterLeaves how s l t list) s w list
      (enter_ahead s l t (cut_places how s t) w list) refl refl (leaves octets)

  -- a call whose outcome is that of `lookup_rules` keeps what is promised
  pub lookup_keeps : (o : Outcome) → Octets s → o ≡ lookup_call how s l t w list → LookupKeeps how s l t w list o
  lookup_keeps o octets e = subst (LookupKeeps how s l t w list) (sym e) (kept octets)

  -- ---- and decides the outcome

  -- no second outcome satisfies a contract, number by number and buffer by buffer
  pub one_lookup : (x y : Exit) → outcome_of x ≡ lookup_call how s l t w list → outcome_of y ≡ lookup_call how s l t w list → Same x y
  one_lookup x y p q = one_exit x y (lookup_call how s l t w list) p q

  -- nor what is promised
  pub lookup_decided : (x y : Outcome) → LookupKeeps how s l t w list x → LookupKeeps how s l t w list y → x ≡ y
  lookup_decided =
      call_decided (lookup_cases how s l t w list) (MayEnter how s l t w list) (no_case_enters how s l t w list) (enters_no_case how s l t w list) (EnterLeaves how s l t list) s w list
      (λ x y a b. (a.count ∙ sym b.count, a.written ∙ sym b.written, a.tables ∙ sym b.tables))

  -- so an outcome that keeps what is promised is that of `lookup_call`
  pub lookup_only : (o : Outcome) → Octets s → LookupKeeps how s l t w list o → o ≡ lookup_call how s l t w list
  lookup_only o octets k = lookup_decided o (lookup_call how s l t w list) k (lookup_keeps (lookup_call how s l t w list) octets refl)
