-- The numbers of some rows, rotated, are those of the rows rotated. Assumes nothing.
use mathlib.Core.Path.{◌≡◌, sym, ap, ap₂, ◌∙◌}
use mathlib.Core.List.{List, [], ◌++◌, reverse, append_assoc, append-nil}
use Rattle.std.proofs.lemmas.List.{length-reverse, reverse-append, reverse-reverse}
use Prim.Native.Nat.{ℕ, ◌+◌, ◌-◌, ◌*◌, ◌≤◌}
use native.Mathlib.Omega.{arith}
use lib.ListN.{length, take, drop, length-append}
use lib.Seq.{take_at, take-length, drop_at, drop-drop, drop-length, length-take-le}
use borrow.Rule.Slice.PartMut.{put_mid, mid_of}
use Rattle.folds.specs.Lists.{put, part}
use Rattle.folds.proofs.WrittenPart.{part-written}
use Rattle.store_rules.specs.Store.{per_link}
use Rattle.store_link_rows.specs.Rows.{row, rows}
use Rattle.store_link_rows.proofs.Spans.{span_join}
use Rattle.store_link_rows.proofs.RowLaws.{rows_long, own_rows}

-- rows as a part of the list
rows_part : (ls : List ℕ) (lo hi : ℕ) → lo ≤ hi → per_link * hi ≤ length ls → part ls (per_link * lo) (per_link * hi) ≡ rows ls lo hi
rows_part ls lo hi l h =
    ap (part ls (per_link * lo)) (sym (rows_long ls lo hi l))
    ∙ ap (λ (d : List ℕ). part d (per_link * lo) (per_link * lo + length (rows ls lo hi))) (sym (own_rows ls lo hi l h))
    ∙ part-written ls (per_link * lo) (rows ls lo hi) (omega arith)

pub moved_fit : (ls : List ℕ) (a b m : ℕ) → a ≤ b → b ≤ m → per_link * m ≤ length ls
    → per_link * (b - a) ≤ length (mid_of (per_link * a) (per_link * m - per_link * a) ls)
moved_fit ls a b m ab bm room =
    let long : length (mid_of (per_link * a) (per_link * m - per_link * a) ls) ≡ length (rows ls a m)
    = ap (λ (x : List ℕ). length x) (rows_part ls a m (omega arith) room) in
    omega (arith, long, rows_long ls a m (omega arith))

-- the front n numbers reversed, then those behind them, and then all
module _ (p : List ℕ) (n : ℕ) (room : n ≤ length p) {one : List ℕ} (first : one ≡ reverse (take n p)) where
  abbrev halfway : List ℕ
  halfway = one ++ drop n p

  long : length one ≡ n
  long = ap (λ (x : List ℕ). length x) first ∙ length-reverse (take n p) ∙ length-take-le n p room

  abbrev rest : ℕ
  rest = length halfway - n

  whole : rest ≡ length (drop n p)
  whole = omega (arith, length-append one (drop n p), long)

  behind : drop n halfway ≡ drop n p
  behind = drop_at one (drop n p) n long

  pub turned : {two three : List ℕ} → two ≡ reverse (take rest (drop n halfway)) → three ≡ reverse (put_mid n rest halfway two)
      → three ≡ drop n p ++ take n p
  turned {two} {three} second last =
      let mirrored : two ≡ reverse (drop n p)
      = second ∙ ap₂ (λ (k : ℕ) (x : List ℕ). reverse (take k x)) whole behind ∙ ap reverse (take-length (drop n p)) in
      let nothing : drop rest (drop n halfway) ≡ [] = ap₂ (λ (k : ℕ) (x : List ℕ). drop k x) whole behind ∙ drop-length (drop n p) in
      last
      ∙ ap₂ (λ (x y : List ℕ). reverse (x ++ (two ++ y))) (take_at one (drop n p) n long) nothing
      ∙ ap (λ (x : List ℕ). reverse (one ++ x)) (append-nil two)
      ∙ ap₂ (λ (x y : List ℕ). reverse (x ++ y)) first mirrored
      ∙ reverse-append (reverse (take n p)) (reverse (drop n p))
      ∙ ap₂ (λ (x y : List ℕ). x ++ y) (reverse-reverse (drop n p)) (reverse-reverse (take n p))

pub rotated : (ls : List ℕ) (a b m : ℕ) → a ≤ b → b ≤ m → per_link * m ≤ length ls → {new : List ℕ}
    → (let mid = mid_of (per_link * a) (per_link * m - per_link * a) ls in new ≡ drop (per_link * (b - a)) mid ++ take (per_link * (b - a)) mid)
    → put_mid (per_link * a) (per_link * m - per_link * a) ls new ≡ put ls (per_link * a) (rows ls b m ++ rows ls a b)
unfolding put
rotated ls a b m ab bm room {new} h =
    let A = per_link * a in
    let K = per_link * m - per_link * a in
    let n = per_link * (b - a) in
    let X = rows ls a b in
    let Y = rows ls b m in
    let nx = rows_long ls a b ab in
    let ny = rows_long ls b m bm in
    let mid : mid_of A K ls ≡ X ++ Y = rows_part ls a m (omega arith) room ∙ span_join (row ls) a b m ab bm in
    let turn : new ≡ Y ++ X =
    h ∙ ap (λ (p : List ℕ). drop n p ++ take n p) mid ∙ ap₂ (λ (u v : List ℕ). u ++ v) (drop_at X Y n (omega arith)) (take_at X Y n (omega arith)) in
    let behind : A + K ≡ A + length (Y ++ X) = omega (arith, length-append Y X) in
    ap (λ (p : List ℕ). take A ls ++ (p ++ drop K (drop A ls))) turn
    ∙ ap (λ (p : List ℕ). take A ls ++ ((Y ++ X) ++ p)) (drop-drop K A ls ∙ ap (λ (k : ℕ). drop k ls) behind)
    ∙ sym (append_assoc (take A ls) (Y ++ X) (drop (A + length (Y ++ X)) ls))
