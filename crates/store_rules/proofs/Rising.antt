-- Links of which each stands before all later ones, and that they stay so when some are left out and renumbered. Assumes nothing.
use Prim.Native.Nat.{ℕ, zero, suc, ◌+◌, ◌<◌}
use mathlib.Core.Path.{◌≡◌, refl, sym, subst}
use mathlib.Core.Bool.{Bool, true, false, cond}
use mathlib.Core.List.{List, [], ◌∷◌, map}
use mathlib.Core.Logic.{inl}
use native.Mathlib.Omega.{arith}
use Rattle.folds.specs.Folds.{flat, upto}
use Rattle.folds.specs.Lists.{sift}
use Rattle.folds.proofs.Folds.{upto-cons}
use Rattle.folds.proofs.Each.{Each, each_moved, each_upto}
use Rattle.store_rules.specs.Store.{Store, Link, links_of, link_at}
use Rattle.store_rules.proofs.Sound.{Fits}
use Rattle.store_rules.proofs.LinksAscend.{From, Climb, place}
use Rattle.store_rules.proofs.RowsSentence.{later}

-- m comes behind l
abbrev pub Behind : Link → Link → Type 0
Behind l m = From l.parent (place l + 1) m.parent (place m)

-- each stands before all that come later
abbrev pub Rises : List Link → Type 0
Rises [] = Unit {0}
Rises (l ∷ ls) = Each (Behind l) ls × Rises ls

-- those that pass a test, changed so that their order stays
pub rises_moved : (P : Link → Type 0) (f : Link → Link) (p : Link → Bool)
    → ((l m : Link) → P l → P m → p l ≡ true → p m ≡ true → Behind l m → Behind (f l) (f m))
    → (ls : List Link) → Each P ls → Rises ls → Rises (map f (sift p ls))
unfolding sift
rises_moved P f p h [] a r = tt
rises_moved P f p h (l ∷ ls) a r = go (p l) refl (rises_moved P f p h ls a.1 r.1)
  where
    both : (ms : List Link) → Each P ms → Each (Behind l) ms → Each (λ m. P m × Behind l m) ms
    both [] x y = tt
    both (m ∷ ms) x y = ((x.0, y.0), both ms x.1 y.1)

    go : (b : Bool) → p l ≡ b → Rises (map f (sift p ls)) → Rises (map f (cond b (l ∷ sift p ls) (sift p ls)))
    go false e i = i
    go true e i =
        (each_moved (λ m. P m × Behind l m) (Behind (f l)) f p (λ m (x, y) t. h l m a.0 x e t y) ls (both ls a.1 r.0), i)

-- by index
rises_upto : (f : ℕ → Link) (n : ℕ) → ((i j : ℕ) → i < j → j < n → Behind (f i) (f j)) → Rises (upto f n)
unfolding flat
rises_upto f zero h = tt
rises_upto f (suc n) h =
    subst Rises (sym (upto-cons f n)) (
      each_upto (Behind (f 0)) (λ j. f (suc j)) n (λ k l. h 0 (suc k) (omega arith) (omega arith)),
      rises_upto (λ j. f (suc j)) n (λ i j a b. h (suc i) (suc j) (omega arith) (omega arith)),
    )

-- "Rows strictly ascend"
pub rows_rise : (s : Store) → Fits s → Rises (links_of s)
unfolding links_of
rows_rise s f = rises_upto (link_at s) s.link_count (later s f)

-- such links climb
pub rises_climb : (ls : List Link) (p q e : ℕ) → p < e → Each (λ l. l.parent < e) ls → Each (λ l. From p q l.parent (place l)) ls → Rises ls → Climb p q e ls
rises_climb [] p q e h a b r = inl h
rises_climb (l ∷ ls) p q e h a b r = (b.0, rises_climb ls l.parent (place l + 1) e a.0 a.1 r.0 r.1)
