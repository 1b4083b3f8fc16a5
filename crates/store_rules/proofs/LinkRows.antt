-- Link rows: the numbers that are written are the links in use. Assumes nothing.
use Prim.Native.Nat.{ℕ, zero, suc, ◌+◌, ◌*◌, ◌<◌}
use mathlib.Core.Path.{◌≡◌, refl, sym, ap, ◌∙◌}
use mathlib.Core.List.{List, [], ◌∷◌, ◌++◌}
use native.Mathlib.Omega.{arith}
use native.Mathlib.Nat.{not-suc-le-zero}
use lib.ListN.{length, get_or}
use Rattle.folds.specs.Folds.{upto}
use Rattle.folds.proofs.Folds.{upto-same}
use Rattle.folds.proofs.FromTheFront.{upto_get_d, upto-at}
use Rattle.store_rules.specs.Store.{Store, Link, per_link, row_parent, row_position, row_width, row_child, row_kind, links_of, link_at, link_number}
use Rattle.store_rules.specs.Appended.{row_numbers}

-- what a list has past its end
pub no_link : Link
no_link = record { parent = 0; position = 0; width = 0; child = 0; kind = 0 }

-- a row further on
row_on : (k : ℕ) (j : ℕ) → per_link * suc k + j ≡ suc (suc (suc (suc (suc (per_link * k + j)))))
row_on k j = omega arith

-- number j of a link
abbrev number_at : Link → ℕ → ℕ
number_at l zero = l.parent
number_at l (suc zero) = l.position
number_at l (suc (suc zero)) = l.width
number_at l (suc (suc (suc zero))) = l.child
number_at l (suc (suc (suc (suc j)))) = l.kind

rows_at : (ls : List Link) (rest : List ℕ) (k j : ℕ) → k < length ls → j < per_link → get_or (row_numbers ls ++ rest) (per_link * k + j) 0 ≡ number_at (get_or ls k no_link) j
unfolding row_numbers
rows_at [] rest k j h b = absurd (not-suc-le-zero h)
rows_at (l ∷ ls) rest zero zero h b = refl
rows_at (l ∷ ls) rest zero (suc zero) h b = refl
rows_at (l ∷ ls) rest zero (suc (suc zero)) h b = refl
rows_at (l ∷ ls) rest zero (suc (suc (suc zero))) h b = refl
rows_at (l ∷ ls) rest zero (suc (suc (suc (suc zero)))) h b = refl
rows_at (l ∷ ls) rest zero (suc (suc (suc (suc (suc j))))) h b = absurd (omega arith)
rows_at (l ∷ ls) rest (suc k) j h b = ap (λ (n : ℕ). get_or (row_numbers (l ∷ ls) ++ rest) n 0) (row_on k j) ∙ rows_at ls rest k j (omega arith) b

pub links_back : (s : Store) (ls : List Link) (rest : List ℕ) → s.links ≡ row_numbers ls ++ rest → s.link_count ≡ length ls → links_of s ≡ ls
unfolding links_of
links_back s ls rest e n =
    ap (λ (m : ℕ). upto (link_at s) m) n
    ∙ upto-same (link_at s) (λ k. get_or ls k no_link) (length ls) same
    ∙ upto_get_d ls no_link
  where
    number : (k j : ℕ) → k < length ls → j < per_link → link_number s k j ≡ number_at (get_or ls k no_link) j
    number k j h b = ap (λ (r : List ℕ). get_or r (per_link * k + j) 0) e ∙ rows_at ls rest k j h b

    same : (k : ℕ) → k < length ls → link_at s k ≡ get_or ls k no_link
    same k h = λ i. record { parent = number k row_parent h (omega arith) i; position = number k row_position h (omega arith) i; width = number k row_width h (omega arith) i; child = number k row_child h (omega arith) i; kind = number k row_kind h (omega arith) i }

-- row k is link k
pub row_is : (s : Store) (ls : List Link) → links_of s ≡ ls → (k : ℕ) → k < s.link_count → (d : Link) → link_at s k ≡ get_or ls k d
unfolding links_of
row_is s ls e k h d = sym (upto-at (link_at s) s.link_count k d h) ∙ ap (λ (x : List Link). get_or x k d) e

pub rows_numbers : (ls : List Link) → length (row_numbers ls) ≡ per_link * length ls
unfolding row_numbers
rows_numbers [] = refl
rows_numbers (l ∷ ls) = omega (arith, rows_numbers ls)
