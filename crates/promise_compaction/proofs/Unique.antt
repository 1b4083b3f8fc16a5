-- No second outcome satisfies the contract of a compaction, nor what is promised of it. Assumes nothing.
use Prim.Native.Nat.{ℕ, zero, suc, ◌+◌, ◌-◌, ◌*◌, ◌/◌, ◌%◌, ◌<◌, ◌≤◌}
use mathlib.Core.Path.{◌≡◌, refl, sym, ap, subst, ◌∙◌}
use mathlib.Core.List.{List}
use mathlib.Core.Logic.{⊎_elim}
use native.Mathlib.Omega.{arith}
use native.Mathlib.Nat.{div-add-mod', mod-lt}
use lib.ListN.{length, get_or}
use lib.Seq.{ext_get_or}
use Rattle.folds.specs.Folds.{before}
use Rattle.folds.proofs.Tests.{either}
use Rattle.folds.proofs.Parts.{part_at}
use Rattle.store_rules.specs.Store.{Store, Link, per_link, head_of, tail_of, size_of, bytes_of, link_number, link_at, links_of}
use Rattle.store_rules.proofs.Sound.{Fits, sound_fits, size_bytes}
use Rattle.store_rules.proofs.LinkRows.{no_link, row_is}
use Rattle.store_rules.proofs.LinksFit.{rows_many}
use Rattle.compact_rules.specs.Calls.{CompactOutcome, compact_cases, compaction_call}
use Rattle.promise_calls.proofs.Given.{gives_one}
use Rattle.promise_calls.proofs.Unique.{three_same}
use Rattle.promise_calls.proofs.Keeps.{decided}
use Rattle.promise_compaction.specs.Kept.{AllKept}
use Rattle.promise_compaction.specs.Rests.{NoGaps, Wiped, AllWiped}
use Rattle.promise_compaction.specs.Calls.{MayCompact, moved_to, CompactLeaves, CompactKeeps}
use Rattle.promise_compaction.specs.Exits.{Exit, outcome_of, Same}
use Rattle.promise_compaction.proofs.Promised.{no_case_may, may_no_case, compact_keeps}

-- ---- the contract

pub one_compaction : (s : Store) (roots walk : List ℕ) (x y : Exit) → outcome_of x ≡ compaction_call s roots walk → outcome_of y ≡ compaction_call s roots walk → Same x y
one_compaction s roots walk x y p q =
    let e : outcome_of x ≡ outcome_of y = p ∙ sym q in
    record {
      answer = ap (λ (o : CompactOutcome). o.answer) e;
      moved = ap (λ (o : CompactOutcome). o.moved) e;
      «data» = ap (λ (o : CompactOutcome). o.store.bytes) e;
      objects = ap (λ (o : CompactOutcome). o.store.objects) e;
      links = ap (λ (o : CompactOutcome). o.store.links) e;
      counts =
          three_same x.counts y.counts x.three y.three (ap (λ (o : CompactOutcome). o.store.byte_count) e)
          (ap (λ (o : CompactOutcome). o.store.object_count) e) (ap (λ (o : CompactOutcome). o.store.link_count) e);
      roots = ap (λ (o : CompactOutcome). o.roots) e;
      walk = ap (λ (o : CompactOutcome). o.walk) e;
    }

-- ---- two stores of which the same is promised

-- a buffer is known by what is in use: behind that are zeros, and what came
same_buffer : {came : List ℕ} {old new : ℕ} (x y : List ℕ) → Wiped came x old new → Wiped came y old new
    → ((i : ℕ) → i < new → get_or x i 0 ≡ get_or y i 0) → x ≡ y
same_buffer {came} {old} {new} x y p q same =
    ext_get_or 0 x y (p.long ∙ sym q.long)
    (λ i l.
    ⊎_elim (same i)
    (λ past. ⊎_elim (λ zero. p.zeros i past zero ∙ sym (q.zeros i past zero)) (λ behind. p.behind i behind ∙ sym (q.behind i behind)) (either i old))
    (either i new))

-- what decides a store
pub record SameIn (x y : Store) : Type 0 where
  pub many : x.object_count ≡ y.object_count
  pub bytes : (m : ℕ) → m < x.object_count → bytes_of x m ≡ bytes_of y m
  pub links : links_of x ≡ links_of y

module _ (s x y : Store) (fx : Fits x) (fy : Fits y) (gx : NoGaps x) (gy : NoGaps y) (wx : AllWiped s x) (wy : AllWiped s y) (same : SameIn x y) where
  -- each object lies where it lies in the other
  size_same : (m : ℕ) → m < x.object_count → size_of x m ≡ size_of y m
  size_same m l = sym (size_bytes x fx m l) ∙ ap length (same.bytes m l) ∙ size_bytes y fy m (omega (arith, same.many))

  tails : (m : ℕ) → m ≤ x.object_count → before (tail_of x) m ≡ before (tail_of y) m
  unfolding before
  tails zero l = refl
  tails (suc m) l =
      omega (
        arith,
        tails m (omega arith),
        gx.heads m l,
        gy.heads m (omega (arith, same.many)),
        size_same m l,
        (fx.object m l).ordered,
        (fy.object m (omega (arith, same.many))).ordered,
      )

  heads : (m : ℕ) → m < x.object_count → head_of x m ≡ head_of y m
  heads m l = gx.heads m l ∙ tails m (omega arith) ∙ sym (gy.heads m (omega (arith, same.many)))

  byte_counts : x.byte_count ≡ y.byte_count
  byte_counts = gx.end ∙ tails x.object_count (omega arith) ∙ ap (before (tail_of y)) same.many ∙ sym gy.end

  link_counts : x.link_count ≡ y.link_count
  link_counts = omega (arith, rows_many x, rows_many y, ap length same.links)

  -- a byte of the objects before m
  byte_below : (m : ℕ) → m ≤ x.object_count → (i : ℕ) → i < before (tail_of x) m → get_or x.bytes i 0 ≡ get_or y.bytes i 0
  unfolding before bytes_of
  byte_below zero l i h = absurd (omega arith)
  byte_below (suc m) l i h =
      ⊎_elim (λ lt. byte_below m (omega arith) i (omega (arith, gx.heads m l)))
      (λ ge.
      let n : i - head_of x m < tail_of x m - head_of x m = omega arith in
      let e : head_of x m + (i - head_of x m) ≡ i = omega arith in
      let d : head_of y m + (i - head_of x m) ≡ i = omega (arith, heads m l) in
      sym (part_at x.bytes (head_of x m) (tail_of x m) (i - head_of x m) n ∙ ap (λ (j : ℕ). get_or x.bytes j 0) e)
      ∙ ap (λ (b : List ℕ). get_or b (i - head_of x m) 0) (same.bytes m l)
      ∙ part_at y.bytes (head_of y m) (tail_of y m) (i - head_of x m) (omega (arith, size_same m l))
      ∙ ap (λ (j : ℕ). get_or y.bytes j 0) d)
      (either i (head_of x m))

  row_number : (i : ℕ) → i < 2 * x.object_count → get_or x.objects i 0 ≡ get_or y.objects i 0
  unfolding before
  row_number i h = go (i % 2) (i / 2) (sym (div-add-mod' i 2)) (mod-lt i (omega arith))
    where
      go : (r m : ℕ) → i ≡ m * 2 + r → r < 2 → get_or x.objects i 0 ≡ get_or y.objects i 0
      go zero m e l =
          let z : i ≡ 2 * m = omega arith in
          ap (λ (j : ℕ). get_or x.objects j 0) z ∙ heads m (omega arith) ∙ sym (ap (λ (j : ℕ). get_or y.objects j 0) z)
      go (suc zero) m e l =
          let z : i ≡ 2 * m + 1 = omega arith in
          ap (λ (j : ℕ). get_or x.objects j 0) z ∙ tails (suc m) (omega arith) ∙ sym (ap (λ (j : ℕ). get_or y.objects j 0) z)
      go (suc (suc r)) m e l = absurd (omega arith)

  link_same : (k : ℕ) → k < x.link_count → link_at x k ≡ link_at y k
  link_same k l = row_is x (links_of y) same.links k l no_link ∙ sym (row_is y (links_of y) refl k (omega (arith, link_counts)) no_link)

  link_number_lem : (i : ℕ) → i < per_link * x.link_count → get_or x.links i 0 ≡ get_or y.links i 0
  link_number_lem i h = go (i % per_link) (i / per_link) (sym (div-add-mod' i per_link)) (mod-lt i (omega arith))
    where
      number : (k r : ℕ) → r < per_link → link_at x k ≡ link_at y k → link_number x k r ≡ link_number y k r
      number k zero l q = ap (λ (m : Link). m.parent) q
      number k (suc zero) l q = ap (λ (m : Link). m.position) q
      number k (suc (suc zero)) l q = ap (λ (m : Link). m.width) q
      number k (suc (suc (suc zero))) l q = ap (λ (m : Link). m.child) q
      number k (suc (suc (suc (suc zero)))) l q = ap (λ (m : Link). m.kind) q
      number k (suc (suc (suc (suc (suc r))))) l q = absurd (omega arith)

      go : (r k : ℕ) → i ≡ k * per_link + r → r < per_link → get_or x.links i 0 ≡ get_or y.links i 0
      go r k e l =
          let z : i ≡ per_link * k + r = omega arith in
          ap (λ (j : ℕ). get_or x.links j 0) z ∙ number k r l (link_same k (omega arith)) ∙ sym (ap (λ (j : ℕ). get_or y.links j 0) z)

  pub same_store : x ≡ y
  same_store =
      let bytes = same_buffer x.bytes y.bytes wx.bytes (subst (Wiped s.bytes y.bytes s.byte_count) (sym byte_counts) wy.bytes)
      (λ i l. byte_below x.object_count (omega arith) i (omega (arith, gx.end))) in
      let objects = same_buffer x.objects y.objects wx.objects
      (subst (λ (n : ℕ). Wiped s.objects y.objects (2 * s.object_count) (2 * n)) (sym same.many) wy.objects) row_number in
      let links = same_buffer x.links y.links wx.links
      (subst (λ (n : ℕ). Wiped s.links y.links (per_link * s.link_count) (per_link * n)) (sym link_counts) wy.links) link_number_lem in
      λ i. record {
        bytes = bytes i;
        objects = objects i;
        links = links i;
        byte_count = byte_counts i;
        object_count = same.many i;
        link_count = link_counts i;
      }

-- ---- what is promised decides the outcome

-- each number that is given out is a kept object's, so there are as many
module _ (s : Store) (roots : List ℕ) (x y : Store) (ax : AllKept s roots x) (ay : AllKept s roots y) where
  no_more : x.object_count ≤ y.object_count
  no_more =
      ⊎_elim
      (λ lt. let (i, h, e) = ax.no_other y.object_count lt in absurd (omega (arith, (ay.object i h).used)))
      (λ le. le)
      (either y.object_count x.object_count)

module _ (s : Store) (roots : List ℕ) (x y : Store) (ax : AllKept s roots x) (ay : AllKept s roots y) where
  kept_same : SameIn x y
  kept_same =
      record {
        many = omega (arith, no_more s roots x y ax ay, no_more s roots y x ay ax);
        bytes = λ m l.
            let (i, h, e) = ax.no_other m l in
            ap (bytes_of x) (sym e) ∙ (ax.object i h).bytes ∙ sym (ay.object i h).bytes ∙ ap (bytes_of y) e;
        links = ax.links ∙ sym ay.links;
      }

same_outcome : (x y : CompactOutcome) → x.answer ≡ y.answer → x.moved ≡ y.moved → x.store ≡ y.store → x.roots ≡ y.roots → x.walk ≡ y.walk → x ≡ y
same_outcome x y a m s r w = λ i. record { answer = a i; moved = m i; store = s i; roots = r i; walk = w i }

module _ (s : Store) (roots walk : List ℕ) where
  leaves_same : (x y : CompactOutcome) → CompactLeaves s roots x → CompactLeaves s roots y → (x.moved ≡ y.moved) × (x.store ≡ y.store) × (x.roots ≡ y.roots)
  leaves_same x y p q =
      let store = same_store s x.store y.store (sound_fits x.store p.sounds) (sound_fits y.store q.sounds) p.gaps q.gaps p.wiped q.wiped
      (kept_same s roots x.store y.store p.keeps q.keeps) in
      (p.moved ∙ ap (moved_to s roots) store ∙ sym q.moved, store, p.rewritten ∙ sym q.rewritten)

  pub compact_decided : (x y : CompactOutcome) → CompactKeeps s roots walk x → CompactKeeps s roots walk y → x ≡ y
  compact_decided x y p q =
      let answer = gives_one (compact_cases s roots walk) x.answer y.answer p.answers q.answers in
      ⊎_elim
      (λ m. let (moved, store, list) = leaves_same x y (p.ahead m) (q.ahead m) in same_outcome x y answer moved store list (p.zero ∙ sym q.zero))
      (λ n.
      let (a, b, c) = p.nothing n in
      let (d, e, g) = q.nothing n in
      same_outcome x y answer (a ∙ sym d) (b ∙ sym e) (c ∙ sym g) (p.zero ∙ sym q.zero))
      (decided (compact_cases s roots walk) (MayCompact s roots walk) (no_case_may s roots walk) (may_no_case s roots walk))

  -- so an outcome that keeps what is promised is that of `compaction_call`
  pub compact_only : (o : CompactOutcome) → CompactKeeps s roots walk o → o ≡ compaction_call s roots walk
  compact_only o k = compact_decided o (compaction_call s roots walk) k (compact_keeps s roots walk (compaction_call s roots walk) refl)
