-- One item after another, with its rows: before the first, an item that is passed over, added or cut at, and after the last. Assumes nothing.
use Prim.Native.Nat.{ℕ, ◌+◌, ◌*◌, ◌≤◌, ◌<◌}
use mathlib.Core.Path.{◌≡◌, sym, ap, subst, ◌∙◌}
use mathlib.Core.Bool.{true, false}
use mathlib.Core.List.{List}
use native.Mathlib.Omega.{arith}
use lib.ListN.{length}
use Rattle.ot_layouts.specs.PairPos.{item_at}
use Rattle.ot_layouts.proofs.Shapes.{items_rise}
use Rattle.store_rules.specs.Store.{Store, link_at, parent_of, bytes_of, size_of, offset_of}
use Rattle.cut_rules.specs.Cuts.{Rule, Cutting, cost_at_cut, seen_from, cut_due, cut_here, go_on, after}
use Rattle.cut_rules.proofs.Turns.{looks_at, cost_now}
use Rattle.call_rules.specs.declared.Settings.{Settings}
use Rattle.pair_rules.specs.Table.{shape, rule_of, cut_places}
use Rattle.store_rules.proofs.LinksAscend.{place_offset}
use Rattle.store_rules.proofs.Shaped.{of_offset, of_parent, offset_inside}
use Rattle.store_rules.proofs.Sound.{Fits, sound_fits, size_bytes}
use Rattle.pair_rules.proofs.TableCuts.{rule_count, rule_edition}
use Rattle.store_reader.specs.Rows.{key_of, FirstRow}
use Rattle.store_reader.proofs.Rows.{row_place_lem}
use Rattle.store_walk.proofs.Marks.{marks_same}
use Rattle.store_walk.proofs.Items.{items_none}
use Rattle.store_walk.proofs.Cycles.{back_all}
use Rattle.cut_filling.specs.declared.Filling.{Filling}
use Rattle.cut_filling.specs.Filling.{Fills, Listed, Filled, Placed}
use Rattle.cut_filling.proofs.Turns as Filling
use Rattle.pair_items.specs.declared.measuring.Measured.{Measured}
use Rattle.pair_items.specs.declared.table_info.TableInfo.{TableInfo}
use Rattle.pair_items.specs.Measuring.{At, Measures, Restarts}
use Rattle.pair_items.specs.Filled.{Described, Unseen, cutting_at, AtItem, TellsCycle}

-- ---- before the first item

module _ {s : Store} {x : TableInfo} (u : Described s x) where
  fits : Fits s
  fits = sound_fits s u.is_sound

  -- an item ends within the table
  pub item_ends : (i : ℕ) → i < x.count
      → (x.header + x.item * (i + 1) ≡ item_at (shape s x.table) (i + 1)) × (x.header + x.item * (i + 1) ≤ 16777216)
  item_ends i h =
      let e : x.header + x.item * (i + 1) ≡ item_at (shape s x.table) (i + 1) = rw (u.header, u.item) in
      let r = items_rise (shape s x.table) (i + 1) (shape s x.table).count (omega (arith, u.count)) in
      let o = fits.object x.table u.used in
      (e, omega (arith, u.exactly, size_bytes s fits x.table u.used, o.inside, fits.bytes_most))

  all-items : (how : Settings) → x.count ≡ (rule_of how s x.table).count
  all-items how = u.count ∙ sym (rule_count how s x.table)

  module _ (how : Settings) where
    pub filled_start : {f : Filling} {w l : List ℕ} → Unseen s x w l → Fills f (cutting_at how s x 0) → (rule_of how s x.table).start ≤ 16
        → Filled (rule_of how s x.table) l 0 f l
    filled_start n a few = Filling.filled_start (rule_of how s x.table) a (omega arith) (omega (arith, n.room, all-items how))

    pub at_start : {f : Filling} {row start : ℕ} {w l : List ℕ} → Unseen s x w l → Fills f (cutting_at how s x 0) → start ≡ (shape s x.table).header
        → FirstRow s.links s.link_count (key_of x.table start) row → AtItem how s x 0 f row w
    unfolding after
    at_start {f} {row} {start} n a h g =
        let e : start ≡ item_at (shape s x.table) 0 = omega arith in
        let z : f.cuts ≡ 0 = a.cuts in
        let y : x.epoch ≡ x.epoch + f.cuts = omega arith in
        record {
          is_sound = u.is_sound;
          order = omega arith;
          first = subst (λ (q : ℕ). FirstRow s.links s.link_count (key_of x.table q) row) e g;
          marks = rw y at (marks_same fits n.marks (λ k l. sym (items_none s x.table (item_at (shape s x.table)) 0 k)));
          used = u.used;
          begun = omega (arith, n.begun);
          back = n.back row (subst (λ (q : ℕ). FirstRow s.links s.link_count (key_of x.table q) row) (h ∙ sym u.header) g);
        }

    -- there is an entry for a cut at item i
    pub cut_room : {d : List ℕ} {i : ℕ} {f : Filling} {l : List ℕ} → Filled (rule_of how s x.table) d i f l → i < x.count → f.cuts < length l
    cut_room v h = Filling.cuts_room (rule_of how s x.table) v (omega (arith, all-items how))

-- ---- one item more

module _ (how : Settings) (s : Store) (x : TableInfo) {d : List ℕ} {i : ℕ} {f : Filling} {row : ℕ} {w l : List ℕ} (v : Filled (rule_of how s x.table) d i f l)
    {m : Measured} {w' : List ℕ} (y : Measures s x.table (shape s x.table) (cutting_at how s x i).seen i row (x.epoch + f.cuts) w m w') where
  -- what the items from a on reach counts as seen, in this epoch
  abbrev hand : List ℕ → ℕ → ℕ → Type 0
  hand z a e = At s x.table (shape s x.table) a (i + 1) m.next e z

  -- an item that is not looked at
  pub passed : looks_at (rule_of how s x.table) i ≡ false
      → Filled (rule_of how s x.table) d (i + 1) f l × AtItem how s x (i + 1) f m.next w' × ((cutting_at how s x (i + 1)).first ≡ (cutting_at how s x i).first)
  passed h =
      let e : cutting_at how s x (i + 1) ≡ cutting_at how s x i = Filling.after_passed (rule_of how s x.table) i h in (
        Filling.passed (rule_of how s x.table) v h,
        subst (λ (c : Cutting). hand w' c.seen (x.epoch + f.cuts)) (sym e) y.after,
        ap (λ (c : Cutting). c.first) e,
      )

  module _ (looks : looks_at (rule_of how s x.table) i ≡ true) (cost : ℕ) (costs : cost ≡ cost_now (rule_of how s x.table) (cutting_at how s x i) i)
      {f' : Filling} where
    -- no cut: the table that is being filled stays
    pub added : cut_due (rule_of how s x.table) (cutting_at how s x i) i cost ≡ false → (rule_of how s x.table).start + cost ≤ 67108864
        → Listed f' (go_on (cutting_at how s x i) cost) d l
        → Filled (rule_of how s x.table) d (i + 1) f' l × AtItem how s x (i + 1) f' m.next w'
        × ((cutting_at how s x (i + 1)).first ≡ (cutting_at how s x i).first)
    unfolding go_on
    added h few g =
        let e : cutting_at how s x (i + 1) ≡ go_on (cutting_at how s x i) cost = Filling.goes_on (rule_of how s x.table) i looks cost costs h in
        let q : x.epoch + f.cuts ≡ x.epoch + f'.cuts = omega (arith, v.listed.fills.cuts, g.fills.cuts) in (
          Filling.added (rule_of how s x.table) v looks cost costs h few g,
          subst (λ (c : Cutting). hand w' c.seen (x.epoch + f'.cuts)) (sym e) (subst (hand w' (cutting_at how s x i).seen) q y.after),
          ap (λ (c : Cutting). c.first) e,
        )

    -- a cut: the next table starts with the item
    pub cut : cut_due (rule_of how s x.table) (cutting_at how s x i) i cost ≡ true
        → (rule_of how s x.table).start + cost_at_cut (rule_of how s x.table) i cost ≤ 67108864
        → {l' : List ℕ} → Listed f' (cut_here (rule_of how s x.table) (cutting_at how s x i) i cost) d l'
        → {before size : ℕ} {w'' : List ℕ} → Restarts s x.table (shape s x.table) i m.next how.edition (x.epoch + f.cuts + 1) before size w''
        → Filled (rule_of how s x.table) d (i + 1) f' l' × AtItem how s x (i + 1) f' m.next w'' × ((cutting_at how s x (i + 1)).first ≡ i)
    unfolding cut_here
    cut h few g {w'' = w''} z =
        let r : Rule = rule_of how s x.table in
        let e : cutting_at how s x (i + 1) ≡ cut_here r (cutting_at how s x i) i cost = Filling.cuts_here r i looks cost costs h in
        let seen : seen_from how.edition i ≡ seen_from r.edition i = ap (λ (n : ℕ). seen_from n i) (sym (rule_edition how s x.table)) in
        let q : x.epoch + f.cuts + 1 ≡ x.epoch + f'.cuts = omega (arith, Filling.one_more r v cost g) in (
          Filling.cut r v looks cost costs h few g,
          subst (λ (c : Cutting). hand w'' c.seen (x.epoch + f'.cuts)) (sym e)
              (subst (hand w'' (seen_from r.edition i)) q (subst (λ (a : ℕ). hand w'' a (x.epoch + f.cuts + 1)) seen z.after)),
          ap (λ (c : Cutting). c.first) e,
        )

-- ---- after the last item

module _ {s : Store} {x : TableInfo} {i : ℕ} (u : Described s x) (e : i ≡ x.count) (f : Filling) where
  pub filled_stop : (how : Settings) {d l : List ℕ} → Filled (rule_of how s x.table) d i f l → Placed (cut_places how s x.table) d l f.cuts
  unfolding cut_places
  filled_stop how v = Filling.all_placed (rule_of how s x.table) v (e ∙ all-items u how)

  -- all of the table's rows have been walked
  pub filled_back : (how : Settings) {row : ℕ} {w : List ℕ} → AtItem how s x i f row w → TellsCycle s x.table w
  filled_back how {row} {w} v = record { tells = back_all w (fits u) u.used all v.back }
    where
      all : (k : ℕ) → k < s.link_count → offset_of x.table (link_at s k) ≡ true → k < row
      all k h own =
          let o = of_offset x.table (link_at s k) own in
          let parent : parent_of s k ≡ x.table = of_parent x.table (link_at s k) own in
          let whole : item_at (shape s x.table) i ≡ length (bytes_of s x.table) = ap (item_at (shape s x.table)) (e ∙ u.count) ∙ sym u.exactly in
          let end : item_at (shape s x.table) i ≡ size_of s x.table = whole ∙ size_bytes s (fits u) x.table u.used in
          let inside = offset_inside (size_of s (parent_of s k)) (link_at s k) o ((fits u).link k h).shape in
          let past : row ≤ k → ⊥ = λ z. omega (arith, v.first.above k z h, inside, ap (size_of s) parent, row_place_lem s k, place_offset (link_at s k) o) in
          omega arith
