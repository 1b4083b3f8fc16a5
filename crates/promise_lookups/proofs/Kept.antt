-- What is kept: other objects but for redirected children, the tables as the split wrote them, the new lookups, and where the list leads. Assumes nothing.
use Rattle.std.specs.Prelude.{Option, Some, None}
use Prim.Native.Nat.{ℕ, ◌<◌}
use mathlib.Core.Path.{◌≡◌, refl, sym, ap, subst, ◌∙◌}
use mathlib.Core.Bool.{true, false}
use mathlib.Core.List.{List, ◌∷◌, map}
use mathlib.Core.Logic.{◌⊎◌, inl, inr}
use native.Mathlib.Omega.{arith}
use lib.ListN.{length, get_or}
use borrow.Author.Tests.{lt-leb}
use Rattle.folds.specs.Lists.{among}
use Rattle.folds.proofs.Tests.{true_false}
use Rattle.folds.proofs.Each.{Each, each_upto, each_among}
use Rattle.store_rules.specs.Store.{Store, bytes_of, child_at}
use Rattle.store_rules.specs.Appended.{new_number}
use Rattle.store_rules.proofs.Lookups.{mapped, child_used_lem}
use Rattle.store_rules.proofs.Ways.{Way, way_child, way_on}
use Rattle.call_rules.specs.declared.Settings.{Settings}
use Rattle.pair_rules.specs.Table.{shape, cut_places}
use Rattle.pair_rules.specs.Written.{new_tables, per_table, split_store}
use Rattle.pair_rules.proofs.NewCounts.{per_two}
use Rattle.pair_rules.proofs.SameReading.{SameAround}
use Rattle.lookup_rules.specs.Listed.{rewritten}
use Rattle.lookup_rules.specs.Written.{new_slots, redirect, lookup_store}
use Rattle.lookup_rules.specs.Applied.{reaches}
use Rattle.lookup_rules.proofs.Redirection.{child_stays}
use Rattle.pair_after.proofs.Ready.{new_used}
use Rattle.pair_after.proofs.NewLinks.{others_child}
use Rattle.pair_after.proofs.NewBytes as split
use Rattle.pair_after.proofs.SoundThen.{sound_then}
use Rattle.pair_after.proofs.SplitLinks.{NewOrOwn, child_leads}
use Rattle.promise_lookups.specs.Demands.{tables_new, lead_then, number_then, OthersRedirected, OrdersRedirected, ObjectsAsSplit, TablesAsSplit, LookupsWritten, ListLeads}
use Rattle.promise_lookups.proofs.Answered.{store_entered_lem}
use Rattle.lookup_after.proofs.Entering.{Entering}
use Rattle.promise_lookups.proofs.GoesAhead.{entering}
use Rattle.lookup_after.proofs.Apart.{way_reaches, list_other, each_named, no_way_to, no_way_from}
use Rattle.lookup_after.proofs.NewLookups.{fit', used_then, split_head, split_tail, split_bytes, split_child, lookup_bytes, lookup_slots}
use Rattle.lookup_after.proofs.Unled.{old_used}
use Rattle.lookup_after.proofs.OrdersThen.{orders_entered}
use Rattle.promise_lookups.proofs.StaysSound.{sound_entered}

module _ (s : Store) (l t : ℕ) (cs : List ℕ) (e : Entering s l t cs) where
  abbrev s' : Store
  s' = split_store s t cs

  abbrev s'' : Store
  s'' = lookup_store s l t cs

  abbrev ps : List ℕ
  ps = rewritten s l t

  abbrev n : ℕ
  n = (split_store s t cs).object_count

  -- ---- other objects

  pub other_bytes : (i : ℕ) → i < s.object_count → (i ≡ t → ⊥) → bytes_of s'' i ≡ bytes_of s i
  other_bytes i h ne = split_bytes s l t cs e i (omega (arith, old_used s l t cs e)) ∙ split.other_bytes s t cs e.ready i h ne

  pub other_child : (i q : ℕ) → i < s.object_count → (i ≡ t → ⊥) → child_at s'' i q ≡ mapped (redirect n ps) (child_at s i q)
  other_child i q h ne =
      split_child s l t cs e i q (omega (arith, old_used s l t cs e)) ∙ ap (mapped (redirect n ps)) (others_child s t cs e.ready i q h ne)

  -- an object that does not reach the table is read as it was
  pub around_other : (u : ℕ) → u < s.object_count → (u ≡ t → ⊥) → reaches s u t ≡ false → SameAround s s'' u
  around_other u h ne apart =
      record {
        sounds = sound_entered s l t cs e ∙ sym e.ready.reads.sounds;
        used = lt-leb s''.object_count u (omega (arith, used_then s l t cs e, old_used s l t cs e)) ∙ sym (lt-leb s.object_count u h);
        bytes = other_bytes u h ne;
        links = λ q. other_child u q h ne ∙ child_stays n ps (child_at s u q) (λ c x a. never c a (way_child s u q c x));
        child_bytes = λ q c x. other_bytes c (child_used_lem s u e.ready.fit q c x) (other u apart q c x);
        child_links = λ q c x r.
            other_child c r (child_used_lem s u e.ready.fit q c x) (other u apart q c x)
            ∙ child_stays n ps (child_at s c r) (λ d y a. never d a (way_on s u c r d (way_child s u q c x) y));
      }
    where
      never : (c : ℕ) → among c ps ≡ true → Way s u c → ⊥
      never c a w = no_way_from s l t e.fine e.ready.fit e.ready.reads u apart c a w

      other : (u : ℕ) → reaches s u t ≡ false → (q c : ℕ) → child_at s u q ≡ Some c → c ≡ t → ⊥
      other u apart q c x z = true_false (sym (way_reaches s e.ready.fit u t (subst (Way s u) z (way_child s u q c x))) ∙ apart)

  -- ---- the tables of the split

  -- a new object, or what the table reaches, is not rewritten
  pub not-rewritten : (c : ℕ) → NewOrOwn s t c → among c ps ≡ true → ⊥
  not-rewritten c (inl ge) a = omega (arith, (each_named s l t e.fine e.ready.fit e.ready.reads c a).lists.used)
  not-rewritten c (inr w) a = no_way_to s l t e.fine e.ready.fit e.ready.reads e.ready.acyclic c a w

  pub table_child : (u q : ℕ) → u < n → (u ≡ t) ⊎ NewOrOwn s t u → child_at s'' u q ≡ child_at s' u q
  table_child u q h d =
      split_child s l t cs e u q h ∙ child_stays n ps (child_at s' u q) (λ c x. not-rewritten c (child_leads s t cs e.ready u q c d x))

  pub around_table : (u : ℕ) → u < n → (u ≡ t) ⊎ NewOrOwn s t u → SameAround s' s'' u
  around_table u h d =
      record {
        sounds = sound_entered s l t cs e ∙ sym (sound_then s t cs e.ready);
        used = lt-leb s''.object_count u (omega (arith, used_then s l t cs e)) ∙ sym (lt-leb n u h);
        bytes = split_bytes s l t cs e u h;
        links = λ q. table_child u q h d;
        child_bytes = λ q c x. split_bytes s l t cs e c (child_used_lem s' u (fit' s l t cs e) q c x);
        child_links = λ q c x r. table_child c r (child_used_lem s' u (fit' s l t cs e) q c x) (inr (child_leads s t cs e.ready u q c d x));
      }

  -- the kept table and the new ones
  abbrev pub OneOfTables : ℕ → Type 0
  OneOfTables u = (u < (split_store s t cs).object_count) × ((u ≡ t) ⊎ NewOrOwn s t u)

  pub kept_table_lem : OneOfTables t
  kept_table_lem = (omega (arith, e.ready.reads.used, old_used s l t cs e), inl refl)

  pub new_table_lem : (j : ℕ) → j < length cs → OneOfTables (new_number s (per_table (shape s t)) j)
  new_table_lem j k = (omega (arith, new_used s t cs e.ready j 0 k (omega (arith, per_two (bytes_of s t)))), inr (inl (omega arith)))

  pub tables_are : Each OneOfTables (t ∷ new_tables s t cs)
  unfolding new_tables
  tables_are = (kept_table_lem, each_upto OneOfTables (new_number s (per_table (shape s t))) (length cs) new_table_lem)

-- ---- the demands

-- a link, as the demands say where it leads then
lead_then_lem : (how : Settings) (s : Store) (l t : ℕ) (o : Option ℕ) → mapped (number_then how s l t) o ≡ lead_then how s l t o
lead_then_lem how s l t (Some c) = refl
lead_then_lem how s l t None = refl

pub orders_redirected : OrdersRedirected
orders_redirected how s l t w list p i =
    rw (store_entered_lem how s l t w list p) (orders_entered s l t (cut_places how s t) (entering how s l t w list p) i)

-- every other object keeps its place, its bytes and its offsets, but for redirected children
pub others_redirected : OthersRedirected
others_redirected how s l t w list p i h ne =
    let cs = cut_places how s t in
    let e = entering how s l t w list p in
    let k : i < (split_store s t cs).object_count = omega (arith, old_used s l t cs e) in
    rw (store_entered_lem how s l t w list p) (
      split_head s l t cs e i k ∙ split.old_head s t cs e.ready i h,
      split_tail s l t cs e i k ∙ split.other_tail s t cs e.ready i h ne,
      other_bytes s l t cs e i h ne,
      λ q. other_child s l t cs e i q h ne ∙ lead_then_lem how s l t (child_at s i q),
    )

pub objects_as_split : ObjectsAsSplit
objects_as_split how s l t w list p i h =
    let cs = cut_places how s t in
    let e = entering how s l t w list p in
    rw (store_entered_lem how s l t w list p) (split_head s l t cs e i h, split_tail s l t cs e i h, split_bytes s l t cs e i h)

pub tables_as_split : TablesAsSplit
tables_as_split how s l t w list p u h =
    let cs = cut_places how s t in
    let e = entering how s l t w list p in
    let (k, d) = each_among (OneOfTables s l t cs e) (t ∷ new_tables s t cs) u (tables_are s l t cs e) h in
    rw (store_entered_lem how s l t w list p) (split_bytes s l t cs e u k, λ q. table_child s l t cs e u q k d)

pub lookups_written : LookupsWritten
lookups_written how s l t w list p m h =
    let cs = cut_places how s t in
    let e = entering how s l t w list p in
    let slots : List (Option ℕ) = new_slots s t (tables_new how s t) (get_or (rewritten s l t) m 0) in
    rw (store_entered_lem how s l t w list p)
    (lookup_bytes s l t cs e m h, lookup_slots s l t cs e m h ∙ (λ i. map (λ (o : Option ℕ). lead_then_lem how s l t o i) slots))

pub list_leads_on : ListLeads
list_leads_on how s l t w list p =
    let e = entering how s l t w list p in
    let (a, b, c, d) = others_redirected how s l t w list p l e.used (list_other s l t e.fine e.ready.fit e.ready.reads) in
    (c, d)
