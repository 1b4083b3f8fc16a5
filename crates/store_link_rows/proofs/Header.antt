-- The rows of a header, one by one, and where a link of a table leads. Assumes nothing.
use Rattle.std.specs.Prelude.{Option, Some, None}
use Rattle.std.specs.List.{AllWithin, HoldsAt}
use Rattle.std.specs.Option.{MatchOption}
use Prim.Native.Nat.{ℕ, zero, suc, ◌+◌, ◌*◌, ◌≤◌, ◌<◌}
use mathlib.Core.Path.{◌≡◌, refl, sym, subst, ap, ap₂, ◌∙◌}
use mathlib.Core.List.{List, [], ◌∷◌, ◌++◌, map-append}
use native.Mathlib.Numerals.{add-one}
use native.Mathlib.Omega.{arith}
use lib.ListN.{length, get_or, take, drop}
use lib.Seq.{drop-cons, drop-length, take-suc, take_all, length-take-le}
use borrow.Author.Tests.{eq-eqb, ne_eqb}
use Rattle.folds.specs.Lists.{put}
use Rattle.folds.proofs.Put.{put-nil, put-put}
use Rattle.store_rules.specs.Store.{Link, per_link}
use Rattle.store_rules.specs.Appended.{link, numbers_of, row_numbers}
use Rattle.store_rules.specs.Header.{own_child, header_links}
use Rattle.store_rules.proofs.LinkRows.{rows_numbers}
use Rattle.store_rules.proofs.Header.{header_many}
use Rattle.store_link_rows.proofs.Links.{numbers_append}

-- ---- where a link leads: none of the first i positions is its own

record Sought (own : List ℕ) (v q c i : ℕ) : Type 0 where
  some : i ≤ length own
  is : own_child own v q c ≡ own_child (drop i own) (v + i) q c

module _ (own : List ℕ) (v q c : ℕ) where
  sought_start : Sought own v q c 0
  sought_start = record { some = omega arith; is = ap (λ (n : ℕ). own_child own n q c) (omega arith) }

  next : (i : ℕ) → Sought own v q c i → i < length own → own_child own v q c ≡ own_child (get_or own i 0 ∷ drop (i + 1) own) (v + i) q c
  next i s l = s.is ∙ ap (λ (x : List ℕ). own_child x (v + i) q c) (rw (add-one i) (drop-cons own i 0 l))

  sought_turn : (i : ℕ) → Sought own v q c i → i < length own → (q ≡ get_or own i 0 → ⊥) → Sought own v q c (i + 1)
  unfolding own_child
  sought_turn i s l ne =
      record {
        some = omega arith;
        is = next i s l ∙ rw (ne_eqb q (get_or own i 0) ne) (ap (λ (n : ℕ). own_child (drop (i + 1) own) n q c) (omega arith));
      }

  sought_found : (i : ℕ) → Sought own v q c i → i < length own → q ≡ get_or own i 0 → v + i ≡ own_child own v q c
  unfolding own_child
  sought_found i s l e = sym (next i s l ∙ rw (eq-eqb q (get_or own i 0) e))

  sought_none : (i : ℕ) → Sought own v q c i → length own ≤ i → c ≡ own_child own v q c
  unfolding own_child
  sought_none i s l =
      let z : i ≡ length own = omega (arith, s.some) in
      sym (s.is ∙ ap (λ (x : List ℕ). own_child x (v + i) q c) (ap (λ (n : ℕ). drop n own) z ∙ drop-length own))

  -- by the first of its own positions that is the link's
  sought_upto : (i : ℕ) → i ≤ length own → AllWithin (λ x. q ≡ x → ⊥) own 0 i → Sought own v q c i
  sought_upto zero l h = sought_start
  sought_upto (suc i) l h =
      subst (Sought own v q c) (add-one i)
      (sought_turn i (sought_upto i (omega arith) (λ k d a b. h k d a (omega arith))) (omega arith) (h i 0 (omega arith) (omega arith)))

  abbrev pub FirstOwn : Option ℕ → Type 0
  FirstOwn r = MatchOption r (AllWithin (λ x. q ≡ x → ⊥) own 0 (length own)) (λ i. (i < length own) × HoldsAt (λ x. q ≡ x) own i × AllWithin (λ x. q ≡ x → ⊥) own 0 i)

  pub own_first : {i : ℕ} → FirstOwn (Some i) → v + i ≡ own_child own v q c
  own_first {i} (l, e, h) = sought_found i (sought_upto i (omega arith) h) l (e 0)

  pub own_none : FirstOwn None → c ≡ own_child own v q c
  own_none h = sought_none (length own) (sought_upto (length own) (omega arith) h) (omega arith)

-- ---- the rows of the first i positions are written

pub record Headed (ls : List ℕ) (k : ℕ) (own heads : List ℕ) (u shared : ℕ) (out : List ℕ) (i : ℕ) : Type 0 where
  pub some : i ≤ length heads
  pub room : per_link * (k + length heads) ≤ length ls
  pub same : length out ≡ length ls
  pub is : out ≡ put ls (per_link * k) (row_numbers (header_links own (take i heads) u (λ q. shared)))

module _ (ls : List ℕ) (k : ℕ) (own heads : List ℕ) (u shared : ℕ) where
  abbrev header : ℕ → List Link
  header i = header_links own (take i heads) u (λ q. shared)

  pub headed_start : per_link * (k + length heads) ≤ length ls → Headed ls k own heads u shared ls 0
  unfolding header_links row_numbers
  headed_start r = record { some = omega arith; room = r; same = refl; is = put-nil ls (per_link * k) }

  header_next : (i : ℕ) → i < length heads → header (i + 1) ≡ header i ++ (link u (get_or heads i 0) (own_child own (u + 1) (get_or heads i 0) shared) ∷ [])
  unfolding header_links
  header_next i l =
      ap (λ (hs : List ℕ). header_links own hs u (λ q. shared)) (ap (λ (n : ℕ). take n heads) (add-one i) ∙ take-suc heads i 0 l)
      ∙ map-append (λ q. link u q (own_child own (u + 1) q shared)) (take i heads) (get_or heads i 0 ∷ [])

  pub headed_turn : (out : List ℕ) (i : ℕ) → Headed ls k own heads u shared out i → i < length heads → (out' : List ℕ) → length out' ≡ length out
      → (child : ℕ) → child ≡ own_child own (u + 1) (get_or heads i 0) shared → out' ≡ put out (per_link * (k + i)) (numbers_of (link u (get_or heads i 0) child))
      → Headed ls k own heads u shared out' (i + 1)
  unfolding row_numbers
  headed_turn out i s l out' n child e h =
      let q = get_or heads i 0 in
      let long : length (row_numbers (header i)) ≡ per_link * i
      = omega (arith, rows_numbers (header i), header_many own u (λ q. shared) (take i heads), length-take-le i heads (omega arith)) in
      record {
        some = omega arith;
        room = s.room;
        same = n ∙ s.same;
        is =
            h
            ∙ ap₂ (λ (o : List ℕ) (x : ℕ). put o (per_link * (k + i)) (numbers_of (link u q x))) s.is e
            ∙ put-put ls (per_link * k) (row_numbers (header i)) (per_link * (k + i)) (numbers_of (link u q (own_child own (u + 1) q shared))) (omega (arith, s.room)) (omega arith)
            ∙ ap (put ls (per_link * k)) (sym (ap row_numbers (header_next i l) ∙ numbers_append (header i) (link u q (own_child own (u + 1) q shared) ∷ [])));
      }

  pub headed_done : (out : List ℕ) (i : ℕ) → Headed ls k own heads u shared out i → length heads ≤ i
      → out ≡ put ls (per_link * k) (row_numbers (header_links own heads u (λ q. shared)))
  headed_done out i s l =
      s.is ∙ ap (λ (hs : List ℕ). put ls (per_link * k) (row_numbers (header_links own hs u (λ q. shared)))) (take_all i heads (omega arith))
