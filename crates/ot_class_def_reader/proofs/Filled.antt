-- A list filled from the front with what f gives each number of another list. Assumes nothing.
use Prim.Native.Nat.{ℕ, ◌+◌, ◌≤◌, ◌<◌}
use mathlib.Core.Path.{◌≡◌, refl, sym, ap, ◌∙◌}
use mathlib.Core.List.{List, [], ◌∷◌, ◌++◌, map}
use native.Mathlib.Omega.{arith}
use lib.ListN.{length, get_or, set, length-set}
use Rattle.folds.specs.Folds.{flat, upto}
use Rattle.folds.specs.Lists.{put}
use Rattle.folds.proofs.Folds.{flat_none, flat-more, length-upto, upto-cons}
use Rattle.folds.proofs.Put.{put-nil, put-set}

-- the first i are filled
pub record Filled (f : ℕ → ℕ) (xs out₀ out : List ℕ) (i : ℕ) : Type 0 where
  pub within : i ≤ length xs
  pub room : length xs ≤ length out₀
  pub kept : length out ≡ length out₀
  pub is : out ≡ put out₀ 0 (upto (λ m. f (get_or xs m 0)) i)

pub filled_none : (f : ℕ → ℕ) (xs out : List ℕ) → length xs ≤ length out → Filled f xs out out 0
filled_none f xs out l = record { within = omega arith; room = l; kept = refl; is = put-nil out 0 ∙ ap (put out 0) (sym (flat_none _)) }

pub filled_more : {f : ℕ → ℕ} {xs out₀ out : List ℕ} {i v : ℕ} → Filled f xs out₀ out i → i < length xs → v ≡ f (get_or xs i 0) → Filled f xs out₀ (set out i v) (i + 1)
filled_more {f} {xs} {out₀} {out} {i} {v} p l e =
    record {
      within = omega arith;
      room = p.room;
      kept = length-set out i v ∙ p.kept;
      is = ap (λ (o : List ℕ). set o i v) p.is
          ∙ put-set out₀ 0 (upto (λ m. f (get_or xs m 0)) i) i v (omega (arith, length-upto (λ m. f (get_or xs m 0)) i)) (omega (arith, p.room))
          ∙ ap (λ (n : ℕ). put out₀ 0 (upto (λ m. f (get_or xs m 0)) i ++ (n ∷ []))) e
          ∙ ap (put out₀ 0) (sym (flat-more (λ m. f (get_or xs m 0) ∷ []) i));
    }

upto-map : (f : ℕ → ℕ) (xs : List ℕ) → upto (λ m. f (get_or xs m 0)) (length xs) ≡ map f xs
unfolding flat
upto-map f [] = refl
upto-map f (x ∷ xs) = upto-cons (λ m. f (get_or (x ∷ xs) m 0)) (length xs) ∙ ap (λ (ys : List ℕ). f x ∷ ys) (upto-map f xs)

pub filled_all : {f : ℕ → ℕ} {xs out₀ out : List ℕ} {i : ℕ} → Filled f xs out₀ out i → length xs ≤ i → out ≡ put out₀ 0 (map f xs)
filled_all {f} {xs} {out₀} {out} {i} p l =
    let e : i ≡ length xs = omega (arith, p.within) in
    p.is ∙ ap (λ (n : ℕ). put out₀ 0 (upto (λ m. f (get_or xs m 0)) n)) e ∙ ap (put out₀ 0) (upto-map f xs)

pub map_same : (f g : ℕ → ℕ) → ((x : ℕ) → f x ≡ g x) → (xs : List ℕ) → map f xs ≡ map g xs
map_same f g h [] = refl
map_same f g h (x ∷ xs) = rw (h x) (ap (λ (ys : List ℕ). g x ∷ ys) (map_same f g h xs))
