-- New lookups written, their links entered and all links redirected, one after another: the store is then the one with the new tables entered. Assumes nothing.
use Prim.Native.Nat.{ℕ, suc, ◌+◌, ◌*◌, ◌≤◌}
use mathlib.Core.Path.{◌≡◌, refl, sym, ap, ap₂, ◌∙◌}
use mathlib.Core.List.{List, [], ◌∷◌, ◌++◌, map}
use native.Mathlib.Omega.{arith}
use lib.ListN.{length, get_or, take, drop, length-append, length-drop, take-append-drop}
use lib.Seq.{length-take-le}
use Rattle.folds.proofs.Tests.{by_test}
use Rattle.folds.specs.Lists.{put}
use Rattle.folds.proofs.Folds.{length-upto}
use Rattle.folds.proofs.Moved.{length-map}
use Rattle.folds.proofs.Put.{put-put, put_comm, put_over, length-put}
use Rattle.store_rules.specs.Store.{Store, Link, lent, per_link, links_of, bytes_of, row_before}
use Rattle.store_rules.specs.Appended.{row_numbers, appended}
use Rattle.store_rules.specs.InOrder.{put_in, in_order}
use Rattle.store_rules.proofs.LinkRows.{rows_numbers}
use Rattle.store_rules.proofs.LinksFit.{rows_many}
use Rattle.store_object_rows.specs.Objects.{Written}
use Rattle.store_link_rows.specs.Copies.{Copied}
use Rattle.lookup_rules.specs.Written.{new_slots, new_lookup, new_lookups, new_lookup_links, redirected, entered_store}
use Rattle.lookup_links.specs.Redirecting.{links_in}
use Rattle.lookup_carrying.proofs.AllLinks.{all_in_use}

-- a write that covers one before it
put_under : (d : List ℕ) (b : ℕ) (ys xs zs : List ℕ) → length xs ≡ b → length zs ≡ length ys → b + length ys ≤ length d
    → put (put d b ys) 0 (xs ++ zs) ≡ put d 0 (xs ++ zs)
put_under d b ys xs zs e f room =
    let low : length (put d b ys) ≡ length d = length-put d b ys room in
    let front : length (put d 0 xs) ≡ length d = length-put d 0 xs (omega arith) in
    sym (put-put (put d b ys) 0 xs b zs (omega arith) (omega arith))
    ∙ ap (λ (x : List ℕ). put x b zs) (sym (put_comm d 0 xs b ys (omega arith) room))
    ∙ put_over (put d 0 xs) b ys zs (omega arith) (omega arith)
    ∙ put-put d 0 xs b zs (omega arith) (omega arith)

-- links put in order are as many
put-many : (l : Link) (ms : List Link) → length (put_in l ms) ≡ suc (length ms)
unfolding put_in
put-many l [] = refl
put-many l (m ∷ ms) = by_test (row_before m l) (λ h. rw h (ap suc (put-many l ms))) (λ h. rw h)

order_many : (ls : List Link) → length (in_order ls) ≡ length ls
unfolding in_order
order_many [] = refl
order_many (l ∷ ls) = put-many l (in_order ls) ∙ ap suc (order_many ls)

-- a new lookup for each
pub many_new : (s : Store) (t : ℕ) (us ps : List ℕ) → length (new_lookups s t us ps) ≡ length ps
unfolding new_lookups
many_new s t us ps = length-upto (λ m. new_lookup (bytes_of s (get_or ps m 0)) (length (new_slots s t us (get_or ps m 0)))) (length ps)

module _ (d o ls c : List ℕ) (t : ℕ) (us ps : List ℕ) where
  abbrev s : Store
  s = lent d o ls c

  -- the first new lookup
  abbrev n : ℕ
  n = get_or c 1 0

  abbrev more : List Link
  more = new_lookup_links (lent d o ls c) t us ps (get_or c 1 0)

  module _ (room : per_link * (get_or c 2 0 + length more) ≤ length ls) {ls' : List ℕ} {rows : ℕ} (k : Copied ls (get_or c 2 0) more ls' rows) where
    -- as many as before
    all-many : length (in_order (map (redirected n ps) (links_of s ++ more))) ≡ get_or c 2 0 + length more
    all-many =
        order_many (map (redirected n ps) (links_of s ++ more))
        ∙ length-map (redirected n ps) (links_of s ++ more)
        ∙ length-append (links_of s) more
        ∙ ap (λ (m : ℕ). m + length more) (rows_many s)

    -- the links that are redirected
    pub all-links : links_in ls' rows ≡ links_of s ++ more
    unfolding links_of
    all-links = all_in_use ls c more room ls' rows k

    links_then : {ls'' : List ℕ} → ls'' ≡ put ls' 0 (row_numbers (in_order (map (redirected n ps) (links_in ls' rows))))
        → ls'' ≡ put ls 0 (row_numbers (in_order (map (redirected n ps) (links_of s ++ more))))
    links_then e =
        let b = per_link * get_or c 2 0 in
        let ys = row_numbers more in
        let xs = row_numbers (in_order (map (redirected n ps) (links_of s ++ more))) in
        let all : length xs ≡ b + length ys
        = omega (arith, rows_numbers (in_order (map (redirected n ps) (links_of s ++ more))), rows_numbers more, all-many) in
        let parts : take b xs ++ drop b xs ≡ xs = take-append-drop b xs in
        e
        ∙ ap₂ (λ (x : List ℕ) (y : List Link). put x 0 (row_numbers (in_order (map (redirected n ps) y)))) k.rows_are all-links
        ∙ ap (put (put ls b ys) 0) (sym parts)
        ∙ put_under ls b ys (take b xs) (drop b xs) (length-take-le b xs (omega arith)) (omega (arith, length-drop b xs)) (omega (arith, rows_numbers more))
        ∙ ap (put ls 0) parts

    pub entered : {d' o' ls'' : List ℕ} {bytes : ℕ} → Written d o (get_or c 0 0) n (new_lookups s t us ps) d' o' bytes
        → ls'' ≡ put ls' 0 (row_numbers (in_order (map (redirected n ps) (links_in ls' rows))))
        → lent d' o' ls'' (bytes ∷ (n + length ps) ∷ rows ∷ []) ≡ entered_store s t us ps s
    unfolding entered_store appended
    entered w e =
        let many : rows ≡ length (in_order (map (redirected n ps) (links_of s ++ more)))
        = omega (arith, k.next, all-many) in
        λ i. record {
          bytes = w.bytes i;
          objects = w.rows i;
          links = links_then e i;
          byte_count = w.ends i;
          object_count = n + sym (many_new s t us ps) i;
          link_count = many i;
        }
