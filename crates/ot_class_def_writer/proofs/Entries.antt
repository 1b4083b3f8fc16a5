-- The entries of two lists by index: each one, those from an index on, and the run that one of them starts. Assumes nothing.
use Prim.Native.Nat.{ℕ, zero, suc, ◌+◌, ◌-◌, ◌≤◌, ◌<◌}
use mathlib.Core.Path.{◌≡◌, refl, sym, ap, ap₂, ◌∙◌}
use mathlib.Core.Bool.{true, false, ◌&&◌}
use mathlib.Core.List.{List, [], ◌∷◌}
use native.Mathlib.Nat.{not-suc-le-zero}
use native.Mathlib.Numerals.{add-one}
use native.Mathlib.Omega.{arith}
use lib.ListN.{length, get_or, drop, length-drop}
use lib.Dec.{eqb, ltb}
use lib.Seq.{drop-cons, drop-length, drop-drop, get_or-drop}
use borrow.Author.Tests.{eqb-true, eqb-false, eq-eqb, ne_eqb, lt-ltb}
use Rattle.folds.proofs.Tests.{and_both, and_first, and_second, by_test}
use Rattle.ot_layouts.specs.Coverage.{Entry, runs, plain, Ascends, Under}
use Rattle.ot_layouts.specs.ClassDef.{named}
use Rattle.ot_layouts.proofs.Runs.{ascends_lower, follows}
use Rattle.ot_layouts.proofs.Named.{named_skip, named_run}
use Rattle.ot_class_def_writer.specs.Entries.{reduced_entries, joins_at, RunTo}

-- entry k
abbrev pub entry_at : List ℕ → List ℕ → ℕ → ℕ → Entry
entry_at gs cs first k = record { glyph = get_or gs k 0; class = get_or cs k 0 - first }

-- what stands past the last entry
abbrev pub no_entry : Entry
no_entry = record { glyph = 0; class = 0 }

pub length_entries : (gs cs : List ℕ) (first : ℕ) → length cs ≡ length gs → length (reduced_entries gs cs first) ≡ length gs
unfolding reduced_entries
length_entries [] cs first e = refl
length_entries (g ∷ gs) [] first e = absurd (omega arith)
length_entries (g ∷ gs) (c ∷ cs) first e = ap suc (length_entries gs cs first (omega arith))

pub entries_at : (gs cs : List ℕ) (first k : ℕ) → length cs ≡ length gs → k < length gs → get_or (reduced_entries gs cs first) k no_entry ≡ entry_at gs cs first k
unfolding reduced_entries
entries_at [] cs first k e l = absurd (not-suc-le-zero l)
entries_at (g ∷ gs) [] first k e l = absurd (omega arith)
entries_at (g ∷ gs) (c ∷ cs) first zero e l = refl
entries_at (g ∷ gs) (c ∷ cs) first (suc k) e l = entries_at gs cs first k (omega arith) (omega arith)

pub ascends_entries : (gs cs : List ℕ) (first lo : ℕ) → Ascends lo (plain gs) → Ascends lo (reduced_entries gs cs first)
unfolding reduced_entries
ascends_entries [] cs first lo a = tt
ascends_entries (g ∷ gs) [] first lo a = tt
ascends_entries (g ∷ gs) (c ∷ cs) first lo a = (a.0, ascends_entries gs cs first (g + 1) a.1)

pub under_entries : (gs cs : List ℕ) (first n : ℕ) → Under n (plain gs) → Under n (reduced_entries gs cs first)
unfolding reduced_entries
under_entries [] cs first n u = tt
under_entries (g ∷ gs) [] first n u = tt
under_entries (g ∷ gs) (c ∷ cs) first n u = (u.0, under_entries gs cs first n u.1)

-- a glyph is no lower than its place
pub ascends_at : (gs : List ℕ) (lo k : ℕ) → Ascends lo (plain gs) → k < length gs → lo + k ≤ get_or gs k 0
ascends_at [] lo k a l = absurd (not-suc-le-zero l)
ascends_at (g ∷ gs) lo zero a l = let h : lo ≤ g = a.0 in omega arith
ascends_at (g ∷ gs) lo (suc k) a l = let h : lo ≤ g = a.0 in omega (arith, ascends_at gs (g + 1) k a.1 (omega arith))

pub ascends_drop : (es : List Entry) (k lo : ℕ) → Ascends lo es → Ascends lo (drop k es)
ascends_drop es zero lo a = a
ascends_drop [] (suc k) lo a = tt
ascends_drop (e ∷ es) (suc k) lo a = let h : lo ≤ e.glyph = a.0 in ascends_lower (drop k es) (e.glyph + 1) lo (omega arith) (ascends_drop es k (e.glyph + 1) a.1)

-- ---- a test that two entries join

module _ (gs cs : List ℕ) (k : ℕ) where
  pub joins_true : joins_at gs cs k ≡ true → (get_or cs k 0 ≡ get_or cs (k + 1) 0) × (get_or gs k 0 + 1 ≡ get_or gs (k + 1) 0)
  unfolding joins_at
  joins_true h =
      let (a, g) = and_both (ltb (k + 1) (length gs) && eqb (get_or cs k 0) (get_or cs (k + 1) 0)) (eqb (get_or gs k 0 + 1) (get_or gs (k + 1) 0)) h in
      (eqb-true _ _ (and_both (ltb (k + 1) (length gs)) (eqb (get_or cs k 0) (get_or cs (k + 1) 0)) a).1, eqb-true _ _ g)

  follow : (first : ℕ) → joins_at gs cs k ≡ true → follows (entry_at gs cs first k) (entry_at gs cs first (k + 1)) ≡ true
  follow first h =
      let (c, g) = joins_true h in
      rw (eq-eqb (get_or gs k 0 + 1) (get_or gs (k + 1) 0) g, eq-eqb (get_or cs k 0 - first) (get_or cs (k + 1) 0 - first) (ap (λ (x : ℕ). x - first) c))

  part : (first : ℕ) → k + 1 < length gs → first < get_or cs k 0 → joins_at gs cs k ≡ false → follows (entry_at gs cs first k) (entry_at gs cs first (k + 1)) ≡ false
  unfolding joins_at
  part first l n h =
      by_test (eqb (get_or cs k 0) (get_or cs (k + 1) 0))
      (λ c. and_first _ (eqb (get_or cs k 0 - first) (get_or cs (k + 1) 0 - first)) (rw (lt-ltb (k + 1) (length gs) l, c) at h))
      (λ c. and_second (eqb (get_or gs k 0 + 1) (get_or gs (k + 1) 0)) _ (ne_eqb (get_or cs k 0 - first) (get_or cs (k + 1) 0 - first) (λ e. eqb-false (get_or cs k 0) (get_or cs (k + 1) 0) c (omega arith))))

-- ---- from an index on

module _ (gs cs : List ℕ) (first : ℕ) (same : length cs ≡ length gs) where
  -- the entries from k on
  abbrev rest : ℕ → List Entry
  rest k = drop k (reduced_entries gs cs first)

  pub rest_cons : (k : ℕ) → k < length gs → rest k ≡ entry_at gs cs first k ∷ rest (k + 1)
  rest_cons k l =
      let h : k < length (reduced_entries gs cs first) = omega (arith, length_entries gs cs first same) in
      drop-cons (reduced_entries gs cs first) k no_entry h
      ∙ ap₂ (λ (e : Entry) (n : ℕ). e ∷ rest n) (entries_at gs cs first k same l) (sym (add-one k))

  pub rest_none : (k : ℕ) → k ≡ length gs → rest k ≡ []
  rest_none k e = ap rest (e ∙ sym (length_entries gs cs first same)) ∙ drop-length (reduced_entries gs cs first)

  pub rest_skip : (k : ℕ) → k < length gs → get_or cs k 0 ≤ first → named (rest k) ≡ named (rest (k + 1))
  rest_skip k l h = ap named (rest_cons k l) ∙ named_skip (entry_at gs cs first k) (rest (k + 1)) (omega arith)

  rest_at : (k i : ℕ) → k + i < length gs → get_or (rest k) i no_entry ≡ entry_at gs cs first (k + i)
  rest_at k i l = get_or-drop k (reduced_entries gs cs first) i no_entry ∙ entries_at gs cs first (k + i) same l

  module _ (k r : ℕ) (t : RunTo gs cs k r) where
    run-class : (d : ℕ) → k + d ≤ r → get_or cs (k + d) 0 ≡ get_or cs k 0
    run-class zero l = let e : k + 0 ≡ k = omega arith in ap (λ (i : ℕ). get_or cs i 0) e
    run-class (suc d) l =
        let e : k + suc d ≡ k + d + 1 = omega arith in
        ap (λ (i : ℕ). get_or cs i 0) e ∙ sym (joins_true gs cs (k + d) (t.joined (k + d) (omega arith) (omega arith))).0 ∙ run-class d (omega arith)

    -- the entries from k to r are a run, and the others make the others
    pub rest_run : Ascends 0 (plain gs) → first < get_or cs k 0
        → runs (named (rest k)) ≡ record { start = get_or gs k 0; end = get_or gs r 0; class = get_or cs k 0 - first } ∷ runs (named (rest (r + 1)))
    rest_run a n =
        named_run (rest k) (r - k) 0 no_entry (ascends_drop (reduced_entries gs cs first) k 0 (ascends_entries gs cs first 0 a)) (omega (arith, long))
        (λ z. let q : get_or cs k 0 - first ≡ 0 = sym (ap (λ (e : Entry). e.class) first_one) ∙ z in omega arith)
        (λ j l. let e : k + suc j ≡ k + j + 1 = omega arith in
        ap₂ follows (rest_at k j (omega arith)) (rest_at k (suc j) (omega arith) ∙ ap (entry_at gs cs first) e) ∙ follow gs cs (k + j) first (t.joined (k + j) (omega arith) (omega arith)))
        (λ l. ap₂ follows last_one (rest_at k (suc (r - k)) (omega (arith, long)) ∙ ap (entry_at gs cs first) past) ∙ part gs cs r first (omega (arith, long)) above t.parted)
        ∙ ap₂ (λ (x y : Entry). record { start = x.glyph; end = y.glyph; class = x.class } ∷ runs (named (drop (suc (r - k)) (rest k)))) first_one last_one
        ∙ ap (λ (es : List Entry). record { start = get_or gs k 0; end = get_or gs r 0; class = get_or cs k 0 - first } ∷ runs (named es)) others
      where
        within : k ≤ r
        within = t.from

        inside : r < length gs
        inside = t.within

        long : length (rest k) ≡ length gs - k
        long = omega (arith, length-drop k (reduced_entries gs cs first), length_entries gs cs first same)

        zero_more : k + 0 ≡ k
        zero_more = omega arith

        up_to : k + (r - k) ≡ r
        up_to = omega arith

        past : k + suc (r - k) ≡ r + 1
        past = omega arith

        first_one : get_or (rest k) 0 no_entry ≡ entry_at gs cs first k
        first_one = rest_at k 0 (omega arith) ∙ ap (entry_at gs cs first) zero_more

        last_one : get_or (rest k) (r - k) no_entry ≡ entry_at gs cs first r
        last_one = rest_at k (r - k) (omega arith) ∙ ap (entry_at gs cs first) up_to

        above : first < get_or cs r 0
        above = let e : get_or cs r 0 ≡ get_or cs k 0 = ap (λ (i : ℕ). get_or cs i 0) (sym up_to) ∙ run-class (r - k) (omega arith) in omega arith

        others : drop (suc (r - k)) (rest k) ≡ rest (r + 1)
        others = drop-drop (suc (r - k)) k (reduced_entries gs cs first) ∙ ap rest past
