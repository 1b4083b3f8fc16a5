-- The checks that need no scratch but its lengths, and after them the looks for a cycle and for unsorted sets, decide in the one order. Assumes nothing.
use Rattle.std.specs.Prelude.{Option, Some, None, Err, Ok, Result}
use Prim.Native.Nat.{ℕ, ◌<◌}
use mathlib.Core.Path.{◌≡◌, refl, sym, ap, ap₂, ◌∙◌}
use mathlib.Core.Bool.{Bool, true, false, cond, not, ◌||◌}
use mathlib.Core.List.{List, [], ◌∷◌, ◌++◌}
use mathlib.Core.Logic.{◌⊎◌, inl, inr}
use native.Mathlib.Omega.{arith}
use lib.ListN.{get_or}
use borrow.Author.Tests.{not-true, not-false}
use Rattle.store_reader.specs.Rows.{InOrder}
use Rattle.store_reader.proofs.Rows.{in_order_lem}
use Rattle.ot_pairpos.specs.declared.Layout.{Layout}
use Rattle.ot_pairpos.specs.Layout.{layout_of}
use Rattle.call_rules.specs.declared.Answer.{Answer}
use Rattle.call_rules.specs.declared.Answer.TheVariants.{Unsound, ShortScratch, BadLinks, UnsortedSets}
use Rattle.call_rules.specs.declared.Settings.{Settings}
use Rattle.store_rules.specs.Store.{Store, lent, sound}
use Rattle.store_rules.specs.Reach.{on_cycle}
use Rattle.pair_rules.specs.Table.{all_at_slots, sets_sorted}
use Rattle.call_rules.specs.Scratch.{Scratch}
use Rattle.call_rules.specs.Answers.{number, first_case, case, numbered}
use Rattle.call_rules.specs.Settings.{known, settings_cases}
use Rattle.pair_rules.specs.Calls.{read_cases, unsorted_case, scratch_short, cut_cases}
use Rattle.store_rules.proofs.Sound.{sound_fits}
use Rattle.call_rules.proofs.Scratch.{LongEnough, long_enough}
use Rattle.call_rules.proofs.Cases.{first_skip, first_stands}
use Rattle.call_rules.proofs.KnownSettings.{known_pass}
use Rattle.pair_checks.specs.declared.PairTable.{PairTable}
use Rattle.pair_checks.specs.Checked.{checked_of, settled_as}
use Rattle.pair_checks.specs.Opens.{Opens}
use Rattle.pair_checks.proofs.Deciding.{not_sound}
use Rattle.pair_checks.proofs.Refusals.{opens, refusals}
use Rattle.call_rules.specs.declared.Lengths.{Lengths}
use Rattle.call_rules.specs.Scratch.{lengths_of, lengths_short}
use Rattle.pair_checks.specs.Called.{lent_by, called_by, called_of}

-- ---- 6 and the slots of 7, of a table that is open

pub can_ask_slots : (b o l c : List ℕ) {t : ℕ} {p : PairTable} → Opens (lent b o l c) t p → (InOrder l (get_or c 2 0)) × (t < 65536)
can_ask_slots b o l c x =
    let f = sound_fits (lent b o l c) x.reads.sounds in
    (in_order_lem (lent b o l c) f, omega (arith, x.reads.used, f.objects_most))

module _ (s : Store) (t : ℕ) (n : Lengths) (p : PairTable) {short : Bool} (e : short ≡ lengths_short n s.object_count p.glyphs p.layout.count) where
  pub lent_short : short ≡ true → numbered (Err ShortScratch) ≡ lent_by s t n p
  unfolding lent_by
  lent_short h = rw (sym e ∙ h)

  module _ (h : short ≡ false) {slots : Bool} (f : slots ≡ all_at_slots s t) where
    pub lent_unslotted : not slots ≡ true → numbered (Err BadLinks) ≡ lent_by s t n p
    unfolding lent_by
    lent_unslotted g = rw (sym e ∙ h, sym f ∙ not-true slots g)

    pub lent_open : not slots ≡ false → numbered (Ok p) ≡ lent_by s t n p
    unfolding lent_by
    lent_open g = rw (sym e ∙ h, sym f ∙ not-false slots g)

-- ---- by what 1 to 5 decide

module _ (s : Store) (t : ℕ) {x : Result PairTable Answer} (e : numbered x ≡ checked_of s t) where
  pub is_open : {p : PairTable} → x ≡ Ok p → checked_of s t ≡ numbered (Ok p)
  is_open y = sym e ∙ ap numbered y

  module _ (n : Lengths) where
    pub call_settled : {a : Answer} → x ≡ Err a → numbered (Err a) ≡ called_of s t n
    unfolding called_of
    call_settled y = ap (called_by s t n) (sym (ap numbered y) ∙ e)

    pub call_open : {p : PairTable} {r : ℕ ⊎ PairTable} → x ≡ Ok p → (checked_of s t ≡ numbered (Ok p) → r ≡ lent_by s t n p) → r ≡ called_of s t n
    unfolding called_of
    call_open y h = h (is_open y) ∙ ap (called_by s t n) (sym (ap numbered y) ∙ e)

-- 1
pub call_unsound : (s : Store) (t : ℕ) (n : Lengths) {b : Bool} → b ≡ sound s → not b ≡ true → numbered (Err Unsound) ≡ called_of s t n
call_unsound s t n e h = call_settled s t {x = Err Unsound} (not_sound s t e h) n {a = Unsound} refl

-- ---- the cases 1 to 7, and 11

-- the number of the answer, if there is one, where the looks for a cycle and for unsorted sets come last
abbrev pub looked_last : ℕ ⊎ PairTable → Bool → Bool → Option ℕ
looked_last (inl n) cycle sorted = Some n
looked_last (inr p) cycle sorted = cond cycle (Some (number BadLinks)) (cond (not sorted) (Some (number UnsortedSets)) None)

module _ (s : Store) (t : ℕ) (w : Scratch) where
  -- 6, by the table's own numbers
  same_short : {p : PairTable} → Opens s t p → lengths_short (lengths_of w) s.object_count p.glyphs p.layout.count ≡ scratch_short s t w
  unfolding lengths_short scratch_short layout_of
  same_short o = ap₂ (λ (g i : ℕ). lengths_short (lengths_of w) s.object_count g i) o.glyphs (ap (λ (l : Layout). l.count) o.layout)

  -- 6, 7 and 11
  lent_cases : (p : PairTable) → Opens s t p
      → first_case (case ShortScratch (scratch_short s t w) ∷ case BadLinks (not (all_at_slots s t) || on_cycle s t) ∷ unsorted_case s t ∷ [])
      ≡ looked_last (lent_by s t (lengths_of w) p) (on_cycle s t) (sets_sorted s t)
  unfolding first_case lent_by
  lent_cases p o = rw (same_short o) (go (scratch_short s t w) (all_at_slots s t) (on_cycle s t))
    where
      eleven : Option ℕ
      eleven = cond (not (sets_sorted s t)) (Some (number UnsortedSets)) None

      go : (short slots cycle : Bool) → cond short (Some (number ShortScratch)) (cond (not slots || cycle) (Some (number BadLinks)) eleven)
          ≡ looked_last (cond short (inl (number ShortScratch)) (cond (not slots) (inl (number BadLinks)) (inr p))) cycle (sets_sorted s t)
      go true slots cycle = refl
      go false true cycle = refl
      go false false cycle = refl

  -- by settings that are known
  pub called : (how : Settings) → known how ≡ true
      → first_case (cut_cases how s t w) ≡ looked_last (called_of s t (lengths_of w)) (on_cycle s t) (sets_sorted s t)
  unfolding cut_cases called_of
  called how h = go (checked_of s t) refl
    where
      first : first_case (settings_cases how ++ read_cases s t) ≡ settled_as (checked_of s t)
      first = first_skip (settings_cases how) (read_cases s t) (known_pass how h) ∙ refusals s t

      go : (x : ℕ ⊎ PairTable) → checked_of s t ≡ x
          → first_case (cut_cases how s t w) ≡ looked_last (called_by s t (lengths_of w) x) (on_cycle s t) (sets_sorted s t)
      go (inr p) e = first_skip (settings_cases how ++ read_cases s t) _ (first ∙ ap settled_as e) ∙ lent_cases p (opens s t p e)
      go (inl n) e = first_stands (settings_cases how ++ read_cases s t) _ n (first ∙ ap settled_as e)

-- ---- a table to which neither 1 to 6 nor the slots of 7 apply

pub record Passed (s : Store) (t : ℕ) (n : Lengths) (p : PairTable) : Type 0 where
  pub opens : Opens s t p
  pub slots : all_at_slots s t ≡ true
  pub long : LongEnough n s.object_count p.glyphs p.layout.count

module _ (s : Store) (t : ℕ) (n : Lengths) (p : PairTable) where
  by_lent : (q : PairTable) → lent_by s t n q ≡ inr p → (q ≡ p) × (lengths_short n s.object_count q.glyphs q.layout.count ≡ false) × (all_at_slots s t ≡ true)
  unfolding lent_by
  by_lent q h = go (lengths_short n s.object_count q.glyphs q.layout.count) (all_at_slots s t) h
    where
      go : (short slots : Bool) → cond short (inl (number ShortScratch)) (cond (not slots) (inl (number BadLinks)) (inr q)) ≡ inr p
          → (q ≡ p) × (short ≡ false) × (slots ≡ true)
      go true slots e = let z : ◌≡◌ {A = ℕ} 0 1 = cc in absurd (omega arith)
      go false false e = let z : ◌≡◌ {A = ℕ} 0 1 = cc in absurd (omega arith)
      go false true e = (cc, refl, refl)

  pub passed : called_of s t n ≡ numbered (Ok p) → Passed s t n p
  unfolding called_of
  passed h = go (checked_of s t) refl h
    where
      go : (x : ℕ ⊎ PairTable) → checked_of s t ≡ x → called_by s t n x ≡ inr p → Passed s t n p
      go (inl a) e f = let z : ◌≡◌ {A = ℕ} 0 1 = cc in absurd (omega arith)
      go (inr q) e f =
          let (same, short, slots) = by_lent q f in
          record {
            opens = opens s t p (e ∙ ap inr same);
            slots = slots;
            long = long_enough n s.object_count p.glyphs p.layout.count (rw same at short);
          }
