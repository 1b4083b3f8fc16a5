-- What the decision rests on: whether the settings are known, the checks that need no scratch, the cut places, whether there is a cycle,
-- and whether the pair sets are sorted. Assumes nothing.
use Rattle.std.specs.Prelude.{Some, Err, Ok, Result}
use Prim.Native.Nat.{ℕ, ◌*◌, ◌≤◌, ◌<◌}
use mathlib.Core.Path.{◌≡◌, sym, ap, subst, ◌∙◌}
use mathlib.Core.Bool.{Bool, true, false, cond, not}
use mathlib.Core.List.{List, ◌++◌}
use mathlib.Core.Logic.{◌⊎◌, inr}
use native.Mathlib.Omega.{arith}
use lib.ListN.{length, get_or}
use borrow.Author.Tests.{lt-ltb, le-ltb, not-true, not-false}
use Rattle.call_rules.specs.declared.Answer.{Answer}
use Rattle.call_rules.specs.declared.Answer.TheVariants.{BadEdition, BadLinks, UnsortedSets}
use Rattle.call_rules.specs.declared.Settings.{Settings}
use Rattle.store_rules.specs.Store.{Store, lent, sound}
use Rattle.store_rules.specs.Reach.{on_cycle}
use Rattle.call_rules.specs.Scratch.{Scratch}
use Rattle.call_rules.specs.Answers.{number, first_case, numbered}
use Rattle.call_rules.specs.Settings.{known, settings_cases}
use Rattle.call_rules.proofs.Cases.{first_stands}
use Rattle.call_rules.proofs.KnownSettings.{unknown_refused}
use Rattle.call_lists.specs.declared.Plan.{Plan}
use Rattle.pair_rules.specs.Table.{sets_sorted}
use Rattle.pair_rules.specs.Calls.{read_cases, cut_cases}
use Rattle.store_reader.specs.Rows.{orders}
use Rattle.store_walk.specs.Marks.{Begun}
use Rattle.pair_items.specs.Filled.{TellsCycle}
use Rattle.pair_checks.specs.declared.PairTable.{PairTable}
use Rattle.call_rules.specs.Scratch.{lengths_of}
use Rattle.pair_checks.specs.Called.{called_of}
use Rattle.pair_checks.specs.Opens.{Opens}
use Rattle.pair_plan.specs.Cutting.{Looked, CutsTable}
use Rattle.pair_plan.specs.Decided.{settled_by, Planned, Decided}
use Rattle.pair_plan.proofs.Looking.{header_small}
use Rattle.pair_checks.proofs.Called.{looked_last, called, Passed, passed}

-- ---- the call has its answer

settles : (how : Settings) (s : Store) (t : ℕ) (w : Scratch) (a : Answer) {gs ks cuts : List ℕ} → first_case (cut_cases how s t w) ≡ Some (number a)
    → Decided how s t w (Err a) gs ks cuts
settles how s t w a e = record { answers = e; plans = λ p x. let z : ◌≡◌ {A = ℕ} 0 1 = cc in absurd (omega arith) }

pub decided_settled : {how : Settings} → known how ≡ true → (s : Store) (t : ℕ) (w : Scratch) {x : Result PairTable Answer} {a : Answer} {gs ks cuts : List ℕ}
    → numbered x ≡ called_of s t (lengths_of w) → x ≡ Err a → Decided how s t w (Err a) gs ks cuts
decided_settled {how} h s t w {a = a} e y =
    settles how s t w a (called s t w how h ∙ ap (λ (x : ℕ ⊎ PairTable). looked_last x (on_cycle s t) (sets_sorted s t)) (sym e ∙ ap numbered y))

-- ---- 12

module _ (how : Settings) {b : Bool} (e : b ≡ known how) where
  pub decided_unknown : not b ≡ true → {s : Store} {t : ℕ} {w : Scratch} {gs ks cuts : List ℕ} → Decided how s t w (Err BadEdition) gs ks cuts
  unfolding cut_cases
  decided_unknown h {s} {t} {w} =
      let refused = unknown_refused how (sym e ∙ not-true b h) in
      settles how s t w BadEdition (first_stands (settings_cases how ++ read_cases s t) _ 12 (first_stands (settings_cases how) (read_cases s t) 12 refused))

-- ---- the cuts, and what is asked behind them

module _ (b o l c : List ℕ) (t : ℕ) (w : Scratch) (p : PairTable) (e : called_of (lent b o l c) t (lengths_of w) ≡ numbered (Ok p)) where
  pass : Passed (lent b o l c) t (lengths_of w) p
  pass = passed (lent b o l c) t (lengths_of w) p e

  -- the table is in use, and the walk's scratch long enough
  pub can_begin : ((x : List ℕ) × (sound (lent x o l c) ≡ true)) × (t < get_or c 1 0) × (2 * get_or c 1 0 ≤ length w.walk) × (p.layout.header ≤ orders)
  can_begin = ((b, pass.opens.reads.sounds), pass.opens.reads.used, pass.long.walk, header_small pass.opens)

  pub header_fits : p.layout.header < 4294967296
  header_fits = omega (arith, header_small pass.opens)

  -- the table has a mark there
  pub table_marked : t < length w.walk
  table_marked = omega (arith, pass.opens.reads.used, pass.long.walk)

  -- the table as the checks have opened it
  pub is_open : Opens (lent b o l c) t p
  is_open = pass.opens

  pub can_cut : {z : List ℕ} → Begun (lent b o l c) t p.layout.header z → Looked (lent b o l c) t p z w.set w.glyphs w.classes w.cuts
  can_cut d =
      record {
        walked = record { opens = pass.opens; slots = pass.slots; begun = d; room = pass.long.cuts };
        long = pass.long.set;
        glyphs = pass.long.glyphs;
        classes = pass.long.classes;
      }

  -- what is settled once the places are found
  pub decided_cut : {how : Settings} {d : Result (Plan PairTable) Answer} {gs ks cuts : List ℕ} {n : ℕ} → known how ≡ true
      → CutsTable how (lent b o l c) t p w.glyphs w.classes w.cuts gs ks cuts n
      → d ≡ settled_by (lent b o l c) t (record { table = p; cuts = n }) → Decided how (lent b o l c) t w d gs ks cuts
  unfolding settled_by
  decided_cut {how} {d} {gs} {ks} {cuts} {n} h x is =
      rw is
      (go (on_cycle (lent b o l c) t) (sets_sorted (lent b o l c) t)
      (called (lent b o l c) t w how h ∙ ap (λ (y : ℕ ⊎ PairTable). looked_last y (on_cycle (lent b o l c) t) (sets_sorted (lent b o l c) t)) e))
    where
      go : (cycle sorted : Bool) → first_case (cut_cases how (lent b o l c) t w) ≡ looked_last (inr p) cycle sorted
          → Decided how (lent b o l c) t w (cond cycle (Err BadLinks) (cond sorted (Ok (record { table = p; cuts = n })) (Err UnsortedSets))) gs ks cuts
      go true sorted f = settles how (lent b o l c) t w BadLinks f
      go false false f = settles how (lent b o l c) t w UnsortedSets f
      go false true f =
          record {
            answers = f;
            plans = λ q y.
                let same : record { table = p; cuts = n } ≡ q = cc in
                subst (λ (r : Plan PairTable). Planned how (lent b o l c) t w r gs ks cuts) same (record { opens = pass.opens; cut = x });
          }

-- ---- the rest of 7, and 11

module _ (s : Store) (t : ℕ) (p : Plan PairTable) {w : List ℕ} (d : TellsCycle s t w) where
  pub settled_cycle : (get_or w t 0 ≡ 0 → ⊥) → Err BadLinks ≡ settled_by s t p
  unfolding settled_by
  settled_cycle ne = rw (sym d.tells ∙ lt-ltb 0 (get_or w t 0) (omega arith))

  module _ (h : get_or w t 0 ≡ 0) {x : Bool} (e : x ≡ sets_sorted s t) where
    no_cycle : on_cycle s t ≡ false
    no_cycle = sym d.tells ∙ le-ltb 0 (get_or w t 0) (omega arith)

    pub settled_unsorted : not x ≡ true → Err UnsortedSets ≡ settled_by s t p
    unfolding settled_by
    settled_unsorted n = rw (no_cycle, sym e ∙ not-true x n)

    pub settled_plan : not x ≡ false → Ok p ≡ settled_by s t p
    unfolding settled_by
    settled_plan n = rw (no_cycle, sym e ∙ not-false x n)
