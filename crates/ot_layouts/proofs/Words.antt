-- Numbers in a row as bytes, two each: read at an index, and with one more. Assumes nothing.
use Prim.Native.Nat.{ℕ, zero, suc, ◌+◌, ◌*◌, ◌<◌}
use mathlib.Core.Path.{◌≡◌, refl, sym, ap, ◌∙◌}
use mathlib.Core.List.{List, [], ◌∷◌, ◌++◌, append_assoc, append-nil}
use native.Mathlib.Nat.{not-suc-le-zero}
use native.Mathlib.Numerals.{add-one}
use native.Mathlib.Omega.{arith}
use lib.ListN.{length, get_or, take}
use lib.Seq.{take-suc}
use Rattle.ot_layouts.specs.Numbers.{u16_at, be16, words}
use Rattle.ot_layouts.proofs.Head.{two_bytes, u16_at_past}

-- number k of the row
pub words_at : (vs : List ℕ) (k : ℕ) → k < length vs → u16_at (words vs) (2 * k) ≡ get_or vs k 0
unfolding words be16 u16_at
words_at [] k h = absurd (not-suc-le-zero h)
words_at (v ∷ vs) zero h = two_bytes v
words_at (v ∷ vs) (suc k) h =
    let e : 2 * suc k ≡ 2 + 2 * k = omega arith in
    ap (u16_at (words (v ∷ vs))) e ∙ u16_at_past (be16 v) (words vs) 2 (2 * k) refl ∙ words_at vs k (omega arith)

pub words_append : (vs ws : List ℕ) → words (vs ++ ws) ≡ words vs ++ words ws
unfolding words
words_append [] ws = refl
words_append (v ∷ vs) ws = ap (λ (x : List ℕ). be16 v ++ x) (words_append vs ws) ∙ sym (append_assoc (be16 v) (words vs) (words ws))

pub words_none : (vs : List ℕ) → words (take 0 vs) ≡ []
unfolding words
words_none vs = refl

-- the first k + 1 numbers
pub words_more : (vs : List ℕ) (k : ℕ) → k < length vs → words (take (k + 1) vs) ≡ words (take k vs) ++ be16 (get_or vs k 0)
unfolding words
words_more vs k l =
    ap (λ (n : ℕ). words (take n vs)) (add-one k)
    ∙ ap words (take-suc vs k 0 l)
    ∙ words_append (take k vs) (get_or vs k 0 ∷ [])
    ∙ ap (λ (x : List ℕ). words (take k vs) ++ x) (append-nil (be16 (get_or vs k 0)))
