-- What the library's methods leave of a list that they write part of, in the words of `put`. Assumes nothing.
use Prim.Native.Nat.{ℕ, ◌+◌, ◌-◌, ◌≤◌}
use mathlib.Core.Path.{◌≡◌, sym, ap, ◌∙◌}
use mathlib.Core.List.{List, ◌++◌}
use native.Mathlib.Omega.{arith}
use borrow.Rule.Slice.PartMut.{put_mid}
use lib.ListN.{length, take, drop, replicate, length-replicate}
use lib.Seq.{take_all}
use Rattle.std.specs.List.{copy_within}
use Rattle.std.proofs.lemmas.Slice.{put_mid-paste}
use Rattle.folds.specs.Lists.{put, part}
use Rattle.folds.proofs.Parts.{length_part}

module _ (d : List ℕ) (a n : ℕ) where
  -- the n of them from a up to b, filled
  pub filled : {b : ℕ} → a + n ≡ b → b ≤ length d → (v : ℕ) {s : List ℕ} → s ≡ replicate (length (part d a b)) v → put_mid a (b - a) d s ≡ put d a (replicate n v)
  unfolding put
  filled {b} q l v {s} e =
      let xs = replicate n v in
      let m : n ≡ length xs = sym (length-replicate n v) in
      let p : length (part d a b) ≡ n = length_part d a b (omega arith) l ∙ omega arith in
      put_mid-paste a (b - a) d s xs n (e ∙ ap (λ (k : ℕ). replicate k v) p) (omega arith) m
      ∙ ap (λ (k : ℕ). (take a d ++ take n xs) ++ drop (a + k) d) m
      ∙ ap (λ (x : List ℕ). (take a d ++ x) ++ drop (a + length xs) d) (take_all n xs (omega arith))

  -- n of them, copied from another index to a
  pub copied : (from : ℕ) → from + n ≤ length d → copy_within d from (from + n) a ≡ put d a (part d from (from + n))
  unfolding put
  copied from l = let xs = part d from (from + n) in ap (λ (m : ℕ). (take a d ++ xs) ++ drop (a + m) d) (sym (length_part d from (from + n) (omega arith) l))
