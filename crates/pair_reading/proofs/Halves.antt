-- A list of sixteen numbers that is written by halves. Assumes nothing.
use Rattle.std.proofs.Common.{◌≡◌, List, [], ◌++◌, ℤ, length, take, drop, ◌∙◌, ap, arith, length-append, length-drop}
use Rattle.std.proofs.lemmas.List.{take-append-le, take_all, drop_all, append-nil}
use borrow.Rule.Slice.PartMut.{post_of, put_mid}

module _ (xs ys : List ℤ) (l : length xs ≡ 8) (m : length ys ≡ 8) where
  pub halves : (d : List ℤ) → length d ≡ 16 → put_mid 8 8 (xs ++ post_of 0 8 d) ys ≡ xs ++ ys
  halves d n =
      let p = post_of 0 8 d in
      let front : take 8 (xs ++ p) ≡ xs = take-append-le 8 xs p (omega arith) ∙ take_all 8 xs (omega arith) in
      let behind : drop 8 (drop 8 (xs ++ p)) ≡ [] =
      drop_all 8 (drop 8 (xs ++ p)) (omega (arith, length-drop 8 (xs ++ p), length-append xs p, length-drop 8 d)) in
      (λ i. front i ++ (ys ++ behind i)) ∙ ap (λ (zs : List ℤ). xs ++ zs) (append-nil ys)
