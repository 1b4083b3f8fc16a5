-- Links in order, each of its kind's shape, as rows that may be redirected. Assumes nothing.
use Prim.Native.Nat.{ℕ, ◌≤◌, ◌<◌}
use mathlib.Core.Path.{◌≡◌, sym, subst}
use mathlib.Core.List.{List, [], ◌∷◌}
use mathlib.Core.Logic.{⊎_elim}
use native.Mathlib.Omega.{arith}
use lib.ListN.{length, get_or}
use Rattle.folds.proofs.Tests.{by_test}
use Rattle.folds.proofs.Each.{Each, each_at}
use Rattle.store_rules.specs.Store.{Link, lent, is_offset}
use Rattle.store_rules.proofs.LinkRows.{no_link, row_is}
use Rattle.store_rules.proofs.LinksAscend.{Behind, Climb, place_offset, place_order, climb_two, climb_below}
use Rattle.store_rules.proofs.LinksFit.{rows_many}
use Rattle.store_rules.proofs.Shaped.{offset_inside}
use Rattle.store_reader.specs.Rows.{row_place, row_key}
use Rattle.store_reader.proofs.Rows.{row_place_lem}
use Rattle.store_link_rows.specs.Rows.{link_in}
use Rattle.lookup_rules.proofs.RedirectedRows.{Old}
use Rattle.lookup_links.specs.Redirecting.{links_in, Leading, Redirecting}

module _ {ls : List ℕ} {count : ℕ} {marks : List ℕ} {n : ℕ} (known : Leading ls count marks n) (used : n ≤ 65536)
    {xs : List Link} (are : links_in ls count ≡ xs) {e : ℕ} (climbs : Climb 0 0 e xs) (most : e ≤ 65536) (olds : Each (Old n) xs) where
  many : length xs ≡ count
  many = subst (λ (x : List Link). length x ≡ count) are (rows_many (lent [] [] ls (0 ∷ 0 ∷ count ∷ [])))

  row : (k : ℕ) → k < count → link_in ls k ≡ get_or xs k no_link
  row k h = row_is (lent [] [] ls (0 ∷ 0 ∷ count ∷ [])) xs are k h no_link

  old : (k : ℕ) → k < count → Old n (link_in ls k)
  old k h = subst (Old n) (sym (row k h)) (each_at (Old n) xs olds k (omega (arith, many)) no_link)

  parent_low : (k : ℕ) → k < count → (link_in ls k).parent < 65536
  parent_low k h =
      subst (λ (l : Link). l.parent < 65536) (sym (row k h))
      (let low = each_at (λ (l : Link). l.parent < e) xs (climb_below xs 0 0 e climbs) k (omega (arith, many)) no_link in omega arith)

  -- ---- in order

  placed : (k : ℕ) → k < count → row_place ls k < 4294967296
  placed k h =
      let l = link_in ls k in
      let at = row_place_lem (lent [] [] ls []) k in
      by_test (is_offset l)
      (λ o. omega (arith, place_offset l o, offset_inside 16777216 l o (old k h).formed))
      (λ o. omega (arith, place_order l o, (old k h).below))

  behind : (j k : ℕ) → j < k → k < count → Behind (link_in ls j) (link_in ls k)
  behind j k h l =
      subst (λ (x : Link). Behind x (link_in ls k)) (sym (row j (omega arith)))
      (subst (Behind (get_or xs j no_link)) (sym (row k l)) (climb_two xs 0 0 e climbs j k h (omega (arith, many)) no_link))

  rising : (j k : ℕ) → j < k → k < count → row_key ls j < row_key ls k
  rising j k h l =
      let a = row_place_lem (lent [] [] ls []) j in
      let b = row_place_lem (lent [] [] ls []) k in
      let c = placed j (omega arith) in
      ⊎_elim (λ d. omega arith) (λ (d, f). omega arith) (behind j k h l)

  pub redirecting : Redirecting ls count marks n
  redirecting =
      record {
        leading = known;
        order = record { room = known.room; places = placed; rising = rising };
        formed = λ k h. (old k h).formed;
        parents = parent_low;
        children = λ k h. (old k h).below;
      }
