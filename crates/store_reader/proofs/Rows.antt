-- The rows of a sound store are in the order of their keys, and what stands between two keys. Assumes nothing.
use Prim.Native.Nat.{ℕ, ◌+◌, ◌-◌, ◌*◌, ◌<◌, ◌≤◌}
use mathlib.Core.Bool.{Bool, true, false, ◌&&◌}
use mathlib.Core.List.{List}
use mathlib.Core.Logic.{⊎_elim}
use mathlib.Core.Path.{◌≡◌, refl, sym, subst, ◌∙◌}
use native.Mathlib.Decide.{ℕ_discrete}
use native.Mathlib.Omega.{arith}
use lib.Dec.{leb, ltb, eqb}
use lib.ListN.{length, get_or}
use borrow.Author.Tests.{lt-ltb, le-ltb, le-leb, lt-leb, eq-eqb, ne_eqb}
use Rattle.folds.proofs.Tests.{either, by_test, and_first, and_second}
use Rattle.store_rules.specs.Store.{Store, per_link, row_parent, row_position, row_child, row_kind, sound, link_at, is_offset, offset_of, of_span, parent_of, position_of}
use Rattle.store_rules.proofs.Sound.{Fits, sound_fits}
use Rattle.store_rules.proofs.Shaped.{offset_inside, order_numbers}
use Rattle.store_rules.proofs.LinksAscend.{place, place_offset, place_order}
use Rattle.store_rules.proofs.LinksFit.{row_formed}
use Rattle.store_rules.proofs.RowsSentence.{later}
use Rattle.store_reader.specs.declared.LinkRows.{LinkRows}
use Rattle.store_reader.specs.Rows.{orders, key_of, row_place, row_key, InOrder, FirstRow, Bracket, ParentRows}

-- ---- a row's place

module _ (l : List ℕ) (k : ℕ) where
  pub place_is_position : get_or l (per_link * k + row_kind) 0 ≡ 0 → get_or l (per_link * k + row_position) 0 ≡ row_place l k
  unfolding row_place
  place_is_position z = rw (eq-eqb (get_or l (per_link * k + row_kind) 0) 0 z)

  pub place_is_child : (get_or l (per_link * k + row_kind) 0 ≡ 0 → ⊥) → orders + get_or l (per_link * k + row_child) 0 ≡ row_place l k
  unfolding row_place
  place_is_child n = rw (ne_eqb (get_or l (per_link * k + row_kind) 0) 0 n)

-- ---- the rows of a sound store

-- a row's place is its link's
pub row_place_lem : (s : Store) (k : ℕ) → row_place s.links k ≡ place (link_at s k)
unfolding row_place place
row_place_lem s k = refl

module _ (s : Store) (f : Fits s) where
  -- an offset stands before all order-only links
  pub offset_place : (k : ℕ) → k < s.link_count → is_offset (link_at s k) ≡ true → row_place s.links k < orders
  offset_place k h o =
      omega (arith, row_place_lem s k, place_offset (link_at s k) o, offset_inside 16777216 (link_at s k) o (row_formed s f k h))

  pub place_most : (k : ℕ) → k < s.link_count → row_place s.links k < 4294967296
  place_most k h =
      by_test (is_offset (link_at s k)) (λ o. omega (arith, offset_place k h o))
      (λ o. omega (arith, row_place_lem s k, place_order (link_at s k) o, (f.link k h).child_used, f.objects_most))

  keys_rise : (j k : ℕ) → j < k → k < s.link_count → row_key s.links j < row_key s.links k
  keys_rise j k h l =
      let a = row_place_lem s j in
      let b = row_place_lem s k in
      let c = place_most j (omega arith) in
      ⊎_elim (λ d. omega arith) (λ (d, e). omega arith) (later s f j k h l)

  pub in_order_lem : InOrder s.links s.link_count
  in_order_lem = record { room = f.links_in; places = place_most; rising = keys_rise }

pub rows_in_order : (s : Store) → sound s ≡ true → InOrder s.links s.link_count
rows_in_order s h = in_order_lem s (sound_fits s h)

-- what a look at a row's key asks
pub key_asks : {l : List ℕ} {m : ℕ} → InOrder l m → (k : ℕ) → k < m → (per_link * k + row_kind < length l) × (row_place l k < 4294967296)
key_asks o k h = (omega (arith, o.room), o.places k h)

-- ---- a search: the rows before lo are below the key, those from hi on are not

pub whole : (l : List ℕ) (m key : ℕ) → Bracket l m key 0 m
whole l m key = record { lo_le = omega arith; hi_le = omega arith; below = λ k h. absurd (omega arith); above = λ k h g. absurd (omega arith) }

pub rest : {l : List ℕ} {m key lo : ℕ} → lo ≤ m → ((k : ℕ) → k < lo → row_key l k < key) → Bracket l m key lo m
rest g h = record { lo_le = g; hi_le = omega arith; below = h; above = λ k i j. absurd (omega arith) }

module _ {l : List ℕ} {m key lo hi : ℕ} (o : InOrder l m) (b : Bracket l m key lo hi) where
  pub up : (k : ℕ) → lo ≤ k → k < hi → row_key l k < key → Bracket l m key (k + 1) hi
  up k g h t = record { lo_le = omega arith; hi_le = b.hi_le; below = under; above = b.above }
    where
      under : (j : ℕ) → j < k + 1 → row_key l j < key
      under j d = ⊎_elim (λ (e : j < k). omega (arith, o.rising j k e (omega (arith, b.hi_le)))) (λ e. let q : j ≡ k = omega arith in rw q t) (either j k)

  pub down : (k : ℕ) → lo ≤ k → k < hi → key ≤ row_key l k → Bracket l m key lo k
  down k g h t = record { lo_le = g; hi_le = omega (arith, b.hi_le); below = b.below; above = over }
    where
      over : (j : ℕ) → k ≤ j → j < m → key ≤ row_key l j
      over j d n = ⊎_elim (λ (e : k < j). omega (arith, o.rising k j e n)) (λ e. let q : j ≡ k = omega arith in rw q t) (either k j)

pub found : {l : List ℕ} {m key lo hi : ℕ} → Bracket l m key lo hi → hi ≤ lo → FirstRow l m key lo
found b h = record { within = omega (arith, b.lo_le, b.hi_le); below = b.below; above = λ k g n. b.above k (omega arith) n }

-- a row with that very key
pub hit : {l : List ℕ} {m key : ℕ} → InOrder l m → (k : ℕ) → k < m → row_key l k ≡ key → FirstRow l m key k
hit {l} {m} {key} o k h e =
    record { within = omega arith; below = λ j d. omega (arith, o.rising j k d h); above = over }
  where
    over : (j : ℕ) → k ≤ j → j < m → key ≤ row_key l j
    over j d n = ⊎_elim (λ (g : k < j). omega (arith, o.rising k j g n)) (λ (g : j ≤ k). let q : j ≡ k = omega arith in rw q (omega (arith, e))) (either k j)

-- the row before `near` is below the key
pub behind : {l : List ℕ} {m key near : ℕ} → InOrder l m → near ≤ m → (near ≡ 0 → ⊥) → row_key l (near - 1) < key → Bracket l m key near m
behind {l} {m} {key} {near} o h n b = subst (λ (lo : ℕ). Bracket l m key lo m) (omega arith) (up o (whole l m key) (near - 1) (omega arith) (omega arith) b)

-- a later key's first row is no earlier
pub rows_rise : {l : List ℕ} {m a b lo hi : ℕ} → FirstRow l m a lo → FirstRow l m b hi → a ≤ b → lo ≤ hi
rows_rise {l} {m} {a} {b} {lo} {hi} f g h = ⊎_elim (λ (d : hi < lo). absurd (omega (arith, f.below hi d, g.above hi (omega arith) (omega (arith, f.within))))) (λ d. d) (either hi lo)

-- ---- the rows of parent p at the places from a on, below b

module _ (lo hi k p a b P Q : ℕ) (small : Q < 4294967296) (short : b ≤ 4294967296)
    (early : k < lo → key_of P Q < key_of p a) (in-lo : lo ≤ k → key_of p a ≤ key_of P Q) (in-hi : k < hi → key_of P Q < key_of p b) (late : hi ≤ k → key_of p b ≤ key_of P Q) where
  between : (leb lo k && ltb k hi) ≡ (eqb P p && leb a Q && ltb Q b)
  between =
      ⊎_elim
      (λ (d : k < lo).
      let h = early d in
      rw (lt-leb lo k d)
      (sym (and_first (eqb P p && leb a Q) (ltb Q b)
      (elim (ℕ_discrete P p) [
        | yes e ↦ and_second (eqb P p) (leb a Q) (lt-leb a Q (omega arith))
        | no e ↦ and_first (eqb P p) (leb a Q) (ne_eqb P p e)
      ]))))
      (λ (d : lo ≤ k).
      ⊎_elim
      (λ (e : k < hi).
      let h = in-lo d in
      let i = in-hi e in
      rw (le-leb lo k d, lt-ltb k hi e, eq-eqb P p (omega arith), le-leb a Q (omega arith), lt-ltb Q b (omega arith)))
      (λ (e : hi ≤ k).
      let h = late e in
      rw (and_second (leb lo k) (ltb k hi) (le-ltb k hi e))
      (sym (elim (ℕ_discrete P p) [
        | yes z ↦ and_second (eqb P p && leb a Q) (ltb Q b) (le-ltb Q b (omega arith))
        | no z ↦ and_first (eqb P p && leb a Q) (ltb Q b) (and_first (eqb P p) (leb a Q) (ne_eqb P p z))
      ])))
      (either k hi))
      (either k lo)

-- row k is one of those from lo up to hi exactly if it is such a row
pub rows_between : {l : List ℕ} {m lo hi : ℕ} (p a b : ℕ) → FirstRow l m (key_of p a) lo → FirstRow l m (key_of p b) hi → b ≤ 4294967296 → (k : ℕ) → k < m → row_place l k < 4294967296
    → (leb lo k && ltb k hi) ≡ (eqb (get_or l (per_link * k + row_parent) 0) p && leb a (row_place l k) && ltb (row_place l k) b)
rows_between {l} {m} {lo} {hi} p a b f g short k used small =
    between lo hi k p a b (get_or l (per_link * k + row_parent) 0) (row_place l k) small short (f.below k) (λ d. f.above k d used) (g.below k) (λ d. g.above k d used)

-- positions lie within objects, and these within 16,777,216 bytes
abbrev pub Low : Store → Type 0
Low s = (k : ℕ) → k < s.link_count → position_of s k < orders

module _ (s : Store) (order : InOrder s.links s.link_count) where
  -- and that is an offset of p at these positions
  pub span_in_order : {lo hi : ℕ} (p a b : ℕ) → FirstRow s.links s.link_count (key_of p a) lo → FirstRow s.links s.link_count (key_of p b) hi → b ≤ orders
      → (k : ℕ) → k < s.link_count → (leb lo k && ltb k hi) ≡ of_span p a b (link_at s k)
  span_in_order p a b first next short k used =
      let q = row_place s.links k in
      rows_between p a b first next (omega arith) k used (order.places k used)
      ∙ by_test (is_offset (link_at s k))
      (λ o. rw (o, row_place_lem s k ∙ place_offset (link_at s k) o))
      (λ o.
      let behind : orders ≤ q = omega (arith, row_place_lem s k, place_order (link_at s k) o) in
      rw o (and_second (eqb (parent_of s k) p && leb a q) (ltb q b) (le-ltb q b (omega arith))))

  -- the same for all offsets of p
  pub parent_in_order : Low s → (p : ℕ) {r : LinkRows} → ParentRows s.links s.link_count p r → (k : ℕ) → k < s.link_count
      → (leb r.first k && ltb k r.after) ≡ offset_of p (link_at s k)
  parent_in_order low p rows k used =
      span_in_order p 0 orders rows.first rows.after (omega arith) k used
      ∙ rw (le-leb 0 (position_of s k) (omega arith), lt-ltb (position_of s k) orders (low k used)) (and_true (offset_of p (link_at s k)))
    where
      and_true : (b : Bool) → b && true && true ≡ b
      and_true true = refl
      and_true false = refl

-- of a sound store
module _ (s : Store) (f : Fits s) where
  pub positions_low : Low s
  positions_low k h =
      by_test (is_offset (link_at s k)) (λ o. omega (arith, offset_inside 16777216 (link_at s k) o (row_formed s f k h)))
      (λ o. omega (arith, (order_numbers 16777216 (link_at s k) o (row_formed s f k h)).1))

  pub span_rows : {lo hi : ℕ} (p a b : ℕ) → FirstRow s.links s.link_count (key_of p a) lo → FirstRow s.links s.link_count (key_of p b) hi → b ≤ orders
      → (k : ℕ) → k < s.link_count → (leb lo k && ltb k hi) ≡ of_span p a b (link_at s k)
  span_rows = span_in_order s (in_order_lem s f)

  pub parent_rows : (p : ℕ) {r : LinkRows} → ParentRows s.links s.link_count p r → (k : ℕ) → k < s.link_count
      → (leb r.first k && ltb k r.after) ≡ offset_of p (link_at s k)
  parent_rows = parent_in_order s (in_order_lem s f) positions_low

-- a position's first row is one of its parent's, or the one behind them
pub among-parent : {l : List ℕ} {m p : ℕ} {r : LinkRows} → ParentRows l m p r → (q : ℕ) → q ≤ orders → Bracket l m (key_of p q) r.first r.after
among-parent rows q small =
    record {
      lo_le = rows.rise;
      hi_le = rows.after.within;
      below = λ k h. omega (arith, rows.first.below k h);
      above = λ k h n. omega (arith, rows.after.above k h n);
    }
