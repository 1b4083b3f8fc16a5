-- Marks of objects and the lookups that are to be rewritten, number by number. Assumes nothing.
use Prim.Native.Nat.{ℕ, ◌+◌, ◌-◌, ◌*◌, ◌≤◌, ◌<◌}
use mathlib.Core.Path.{◌≡◌, refl, sym, ap, subst, ◌∙◌}
use mathlib.Core.Bool.{true, false, not}
use mathlib.Core.List.{List, [], ◌∷◌, ◌++◌}
use mathlib.Core.Logic.{⊎_elim}
use native.Mathlib.Omega.{arith}
use native.Mathlib.Decide.{ℕ_discrete}
use native.Mathlib.Nat.{not-suc-le-zero}
use lib.ListN.{length, get_or, set, take, length-append, length-set, length-take, get_or-append, get_or-eq_default}
use lib.Seq.{get_or-set_same, get_or-set_other, get_or-take, ext_get_or}
use lib.Dec.{eqb}
use borrow.Author.Tests.{eq-eqb, ne_eqb, eqb-false}
use Rattle.folds.specs.Folds.{flat, upto}
use Rattle.folds.specs.Lists.{among, part}
use Rattle.folds.proofs.Tests.{either, or_none}
use Rattle.folds.proofs.Among.{among-append, among_one, among-at}
use Rattle.folds.proofs.Each.{Each, each_at, each_append}
use Rattle.folds.proofs.Offsets.{past_at}
use Rattle.folds.proofs.Parts.{length_part, part_at}
use Rattle.lookup_rules.specs.Written.{redirect}
use Rattle.lookup_rules.specs.Marks.{Marked}
use Rattle.lookup_rules.proofs.Redirection.{redirect_either}
use Rattle.lookup_rules.proofs.Once.{among-other, among_same}
use Rattle.lookup_checks.specs.Ordered.{Ordered}

module _ (n size : ℕ) (f : ℕ → ℕ) where
  -- the first i numbers have been met; behind n marks stand ps, some of them
  pub record Marking (i : ℕ) (ps walk : List ℕ) (found : ℕ) : Type 0 where
    pub room : 2 * n ≤ size
    pub sized : length walk ≡ size
    pub count : found ≡ length ps
    pub small : Each (λ p. p < n) ps
    pub met : (c : ℕ) → c < n → among c (upto f i) ≡ not (eqb (get_or walk c 0) 0)
    pub each : (m : ℕ) → m < length ps → get_or walk (get_or ps m 0) 0 ≡ m + 2
    pub rest : (c : ℕ) → c < n → among c ps ≡ false → get_or walk c 0 < 2
    pub stored : (m : ℕ) → m < length ps → get_or walk (n + m) 0 ≡ get_or ps m 0

  pub start : {walk : List ℕ} → 2 * n ≤ size → length walk ≡ size → ((c : ℕ) → c < n → get_or walk c 0 ≡ 0) → Marking 0 [] walk 0
  unfolding flat among
  start {walk} room sized blank =
      record {
        room = room;
        sized = sized;
        count = refl;
        small = tt;
        met = λ c l. ap not (sym (eq-eqb (get_or walk c 0) 0 (blank c l)));
        each = λ m l. absurd (not-suc-le-zero l);
        rest = λ c l e. omega (arith, blank c l);
        stored = λ m l. absurd (not-suc-le-zero l);
      }

  -- ---- one more

  module _ {i : ℕ} {ps walk : List ℕ} {found : ℕ} (w : Marking i ps walk found) (below : f i < n) where
    -- it has a mark: it has been met
    pub was_met : (get_or walk (f i) 0 ≡ 0 → ⊥) → among (f i) (upto f i) ≡ true
    was_met ne = w.met (f i) below ∙ ap not (ne_eqb (get_or walk (f i) 0) 0 ne)

    pub skip : (get_or walk (f i) 0 ≡ 0 → ⊥) → Marking (i + 1) ps walk found
    skip ne =
        record {
          room = w.room;
          sized = w.sized;
          count = w.count;
          small = w.small;
          met = λ c l. among_same f i (was_met ne) c ∙ w.met c l;
          each = w.each;
          rest = w.rest;
          stored = w.stored;
        }

    module _ (blank : get_or walk (f i) 0 ≡ 0) where
      pub is_new : among (f i) (upto f i) ≡ false
      is_new = w.met (f i) below ∙ ap not (eq-eqb (get_or walk (f i) 0) 0 blank)

      -- its mark changes, and no other
      module _ (next : List ℕ) {v : ℕ} (here : get_or next (f i) 0 ≡ v) (marks : 0 < v)
          (same : (c : ℕ) → c < n → (c ≡ f i → ⊥) → get_or next c 0 ≡ get_or walk c 0) where
        met_then : (c : ℕ) → c < n → among c (upto f (i + 1)) ≡ not (eqb (get_or next c 0) 0)
        met_then c l = elim (ℕ_discrete c (f i)) [
          | yes e ↦
              ap (λ (x : ℕ). among x (upto f (i + 1))) e ∙ among-at f (i + 1) i (omega arith)
              ∙ sym (ap not (ne_eqb (get_or next c 0) 0 (λ z. omega (arith, ap (λ (x : ℕ). get_or next x 0) e))))
          | no d ↦ among-other f i c d ∙ w.met c l ∙ ap (λ (x : ℕ). not (eqb x 0)) (sym (same c l d))
        ]

        each_then : (m : ℕ) → m < length ps → get_or next (get_or ps m 0) 0 ≡ m + 2
        each_then m l =
            same (get_or ps m 0) (each_at (λ p. p < n) ps w.small m l 0) (λ e. omega (arith, w.each m l, ap (λ (c : ℕ). get_or walk c 0) e)) ∙ w.each m l

        rest_then : (c : ℕ) → c < n → (c ≡ f i → ⊥) → among c ps ≡ false → get_or next c 0 < 2
        rest_then c l d e = omega (arith, same c l d, w.rest c l e)

      -- it is not one of ps
      pub other : Marking (i + 1) ps (set walk (f i) 1) found
      other =
          let next = set walk (f i) 1 in
          let here : get_or next (f i) 0 ≡ 1 = get_or-set_same walk (f i) 1 0 (omega (arith, w.sized, w.room)) in
          let same : (c : ℕ) → c < n → (c ≡ f i → ⊥) → get_or next c 0 ≡ get_or walk c 0 = λ c l d. get_or-set_other walk (f i) c 1 0 d in
          record {
            room = w.room;
            sized = length-set walk (f i) 1 ∙ w.sized;
            count = w.count;
            small = w.small;
            met = met_then next here (omega arith) same;
            each = each_then next here (omega arith) same;
            rest = λ c l e. elim (ℕ_discrete c (f i)) [
              | yes z ↦ omega (arith, ap (λ (x : ℕ). get_or next x 0) z)
              | no d ↦ rest_then next here (omega arith) same c l d e
            ];
            stored = λ m l. get_or-set_other walk (f i) (n + m) 1 0 (λ e. omega arith) ∙ w.stored m l;
          }

      -- it is
      module _ (few : found < n) where
        abbrev marked : List ℕ
        marked = set walk (f i) (found + 2)

        abbrev then : List ℕ
        then = set marked (n + found) (f i)

        here-then : get_or then (f i) 0 ≡ found + 2
        here-then =
            get_or-set_other marked (n + found) (f i) (f i) 0 (λ e. omega arith) ∙ get_or-set_same walk (f i) (found + 2) 0 (omega (arith, w.sized, w.room))

        same_then : (c : ℕ) → c < n → (c ≡ f i → ⊥) → get_or then c 0 ≡ get_or walk c 0
        same_then c l d =
            get_or-set_other marked (n + found) c (f i) 0 (λ e. omega arith) ∙ get_or-set_other walk (f i) c (found + 2) 0 d

        -- it stands behind ps
        behind : (m : ℕ) → m < length (ps ++ (f i ∷ [])) → length ps ≤ m → (m ≡ found) × (get_or (ps ++ (f i ∷ [])) m 0 ≡ f i)
        behind m l h =
            let z : m - length ps ≡ 0 = omega (arith, length-append ps (f i ∷ [])) in
            (omega (arith, w.count, length-append ps (f i ∷ [])), past_at ps (f i ∷ []) (length ps) m refl h ∙ ap (λ (k : ℕ). get_or (f i ∷ []) k 0) z)

        each_more : (m : ℕ) → m < length (ps ++ (f i ∷ [])) → get_or then (get_or (ps ++ (f i ∷ [])) m 0) 0 ≡ m + 2
        each_more m l =
            ⊎_elim
            (λ (h : m < length ps). ap (λ (q : ℕ). get_or then q 0) (get_or-append ps (f i ∷ []) 0 m h) ∙ each_then then here-then (omega arith) same_then m h)
            (λ (h : length ps ≤ m). let (z, e) = behind m l h in ap (λ (q : ℕ). get_or then q 0) e ∙ here-then ∙ omega arith)
            (either m (length ps))

        rest_more : (c : ℕ) → c < n → among c (ps ++ (f i ∷ [])) ≡ false → get_or then c 0 < 2
        rest_more c l e =
            let (a, b) = or_none (among c ps) (among c (f i ∷ [])) (sym (among-append c ps (f i ∷ [])) ∙ e) in
            rest_then then here-then (omega arith) same_then c l (eqb-false c (f i) (sym (among_one c (f i)) ∙ b)) a

        stored_more : (m : ℕ) → m < length (ps ++ (f i ∷ [])) → get_or then (n + m) 0 ≡ get_or (ps ++ (f i ∷ [])) m 0
        stored_more m l =
            ⊎_elim
            (λ (h : m < length ps).
            get_or-set_other marked (n + found) (n + m) (f i) 0 (λ e. omega (arith, w.count))
            ∙ get_or-set_other walk (f i) (n + m) (found + 2) 0 (λ e. omega arith) ∙ w.stored m h ∙ sym (get_or-append ps (f i ∷ []) 0 m h))
            (λ (h : length ps ≤ m).
            let (z, e) = behind m l h in
            ap (λ (k : ℕ). get_or then (n + k) 0) z
            ∙ get_or-set_same marked (n + found) (f i) 0 (omega (arith, length-set walk (f i) (found + 2), w.sized, w.room)) ∙ sym e)
            (either m (length ps))

        pub one_more : Marking (i + 1) (ps ++ (f i ∷ [])) then (found + 1)
        one_more =
            record {
              room = w.room;
              sized = length-set marked (n + found) (f i) ∙ length-set walk (f i) (found + 2) ∙ w.sized;
              count = omega (arith, w.count, length-append ps (f i ∷ []));
              small = each_append (λ p. p < n) ps (f i ∷ []) w.small (below, tt);
              met = met_then then here-then (omega arith) same_then;
              each = each_more;
              rest = rest_more;
              stored = stored_more;
            }

  -- ---- all of them

  module _ {i : ℕ} {ps walk : List ℕ} {found : ℕ} (w : Marking i ps walk found) where
    mark_in : (c : ℕ) → c < n → get_or (take n walk) c 0 ≡ get_or walk c 0
    mark_in c l = get_or-take n walk c 0 l

    mark_out : (c : ℕ) → n ≤ c → get_or (take n walk) c 0 ≡ 0
    mark_out c l = get_or-eq_default (take n walk) 0 (omega (arith, length-take n walk))

    marks_lead : Marked ps (take n walk)
    marks_lead = record { moves = moves; stays = stays }
      where
        moves : (k c : ℕ) → 2 ≤ get_or (take n walk) c 0 → redirect k ps c ≡ k + (get_or (take n walk) c 0 - 2)
        moves k c h =
            ⊎_elim
            (λ (l : c < n). ⊎_elim
            (λ (m, x, a, b). omega (arith, b, mark_in c l, w.each m x, ap (λ (q : ℕ). get_or walk q 0) a))
            (λ (a, b). absurd (omega (arith, mark_in c l, w.rest c l a)))
            (redirect_either k ps c))
            (λ (l : n ≤ c). absurd (omega (arith, mark_out c l)))
            (either c n)

        stays : (k c : ℕ) → get_or (take n walk) c 0 < 2 → redirect k ps c ≡ c
        stays k c h =
            ⊎_elim
            (λ (m, x, a, b).
            let inside : c < n = subst (λ (q : ℕ). q < n) a (each_at (λ p. p < n) ps w.small m x 0) in
            absurd (omega (arith, mark_in c inside, w.each m x, ap (λ (q : ℕ). get_or walk q 0) a)))
            (λ (a, b). b)
            (redirect_either k ps c)

    pub all_met : found ≤ n → Ordered n ps walk found
    all_met few =
        let long : length (part walk n (n + found)) ≡ found = length_part walk n (n + found) (omega arith) (omega (arith, w.sized, w.room)) ∙ omega arith in
        record {
          count = w.count;
          lookups =
              ext_get_or 0 (part walk n (n + found)) ps (long ∙ w.count)
              (λ m l. part_at walk n (n + found) m (omega arith) ∙ w.stored m (omega (arith, w.count)));
          marks = marks_lead;
        }
