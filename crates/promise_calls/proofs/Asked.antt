-- What 12 and the checks from 6 on ask of any call, where none of its cases applies, and the other way round. Assumes nothing.
use Rattle.std.specs.Prelude.{Option, Some, None}
use Prim.Native.Nat.{ℕ, ◌+◌, ◌<◌, ◌≤◌}
use mathlib.Core.Path.{◌≡◌, refl, ap, ◌∙◌}
use mathlib.Core.Bool.{Bool, true, false, not, cond, ◌||◌}
use mathlib.Core.List.{List, [], ◌∷◌, ◌++◌}
use native.Mathlib.Omega.{arith}
use lib.ListN.{length}
use lib.Dec.{ltb}
use borrow.Author.Tests.{ltb-false, le-ltb, not-false}
use Rattle.folds.specs.Lists.{is_empty}
use Rattle.folds.proofs.Tests.{true_false, or_none}
use Rattle.store_rules.specs.Store.{Store, object_room, byte_room, link_room}
use Rattle.call_rules.specs.declared.Answer.TheVariants.{Done, ShortScratch, BadLinks, NoRoom}
use Rattle.call_rules.specs.declared.Needs.{Needs}
use Rattle.call_rules.specs.declared.Settings.{Settings}
use Rattle.call_rules.specs.Answers.{Case, case, first_case}
use Rattle.call_rules.specs.Settings.{known, settings_cases}
use Rattle.call_rules.specs.Needs.{short_by, room_short}
use Rattle.call_rules.proofs.Cases.{first_append, first_head, first_skip}
use Rattle.call_rules.proofs.KnownSettings.{known_pass}

-- ---- 12, before the checks of a reading; 6 and 7, behind them, and before others

module _ (how : Settings) (read : List Case) (short slots loop : Bool) (others : List Case) where
  abbrev later : List Case
  later = case ShortScratch short ∷ case BadLinks (not slots || loop) ∷ others

  pub no_case_checks : first_case (settings_cases how ++ read ++ later) ≡ None
      → (known how ≡ true) × (first_case read ≡ None) × (short ≡ false) × (slots ≡ true) × (loop ≡ false) × (first_case others ≡ None)
  unfolding settings_cases
  no_case_checks h =
      let (front, rest) = first_append (settings_cases how ++ read) later h in
      let (twelve, none_read) = first_head _ _ front in
      let (six, seven) = first_head _ _ rest in
      let (stands, none_other) = first_head _ _ seven in
      let (at, round) = or_none (not slots) loop stands in
      (not-false (known how) twelve, none_read, six, not-false slots at, round, none_other)

  pub checks_no_case : known how ≡ true → first_case read ≡ None → short ≡ false → slots ≡ true → loop ≡ false → first_case others ≡ None
      → first_case (settings_cases how ++ read ++ later) ≡ None
  unfolding first_case
  checks_no_case k a b c d e = first_skip (settings_cases how ++ read) later (first_skip (settings_cases how) read (known_pass how k) ∙ a) ∙ rw (b, c, d) e

-- ---- "no cut" and 8, behind these

pub not_empty : (cs : List ℕ) → is_empty cs ≡ false → 0 < length cs
unfolding is_empty
not_empty [] h = true_false h
not_empty (c ∷ cs) h = omega arith

pub some_cut_lem : (cs : List ℕ) → 0 < length cs → is_empty cs ≡ false
unfolding is_empty
some_cut_lem [] h = absurd (omega arith)
some_cut_lem (c ∷ cs) h = refl

-- room is enough
pub record RoomFor (s : Store) (list : List ℕ) (n : Needs) : Type 0 where
  pub objects : s.object_count + n.objects ≤ object_room (length s.objects)
  pub links : s.link_count + n.links ≤ link_room (length s.links)
  pub bytes : s.byte_count + n.bytes ≤ byte_room (length s.bytes)
  pub entries : n.entries ≤ length list

module _ (s : Store) (list : List ℕ) (n : Needs) where
  -- what is lent of each
  abbrev objects_lent : ℕ
  objects_lent = object_room (length s.objects)

  abbrev links_lent : ℕ
  links_lent = link_room (length s.links)

  abbrev bytes_lent : ℕ
  bytes_lent = byte_room (length s.bytes)

  pub not_short : room_short s list n ≡ false → RoomFor s list n
  unfolding short_by
  not_short h =
      let (three, entries) = or_none _ (ltb (length list) n.entries) h in
      let (two, bytes) = or_none _ (ltb bytes_lent (s.byte_count + n.bytes)) three in
      let (objects, links) = or_none _ (ltb links_lent (s.link_count + n.links)) two in
      record {
        objects = ltb-false objects_lent (s.object_count + n.objects) objects;
        links = ltb-false links_lent (s.link_count + n.links) links;
        bytes = ltb-false bytes_lent (s.byte_count + n.bytes) bytes;
        entries = ltb-false (length list) n.entries entries;
      }

  pub room_enough : RoomFor s list n → room_short s list n ≡ false
  unfolding short_by
  room_enough r =
      rw (
        le-ltb objects_lent (s.object_count + n.objects) r.objects,
        le-ltb links_lent (s.link_count + n.links) r.links,
        le-ltb bytes_lent (s.byte_count + n.bytes) r.bytes,
        le-ltb (length list) n.entries r.entries,
      )

module _ (cut : List Case) (cs : List ℕ) (s : Store) (list : List ℕ) (n : Needs) where
  abbrev last : List Case
  last = case Done (is_empty cs) ∷ case NoRoom (room_short s list n) ∷ []

  pub no_case_room : first_case (cut ++ last) ≡ None → (first_case cut ≡ None) × (0 < length cs) × RoomFor s list n
  no_case_room h =
      let (none_cut, rest) = first_append cut last h in
      let (cuts, eight) = first_head _ _ rest in
      (none_cut, not_empty cs cuts, not_short s list n (first_head _ _ eight).0)

  pub room_no_case : first_case cut ≡ None → 0 < length cs → RoomFor s list n → first_case (cut ++ last) ≡ None
  unfolding first_case
  room_no_case none_cut cuts r = first_skip cut last none_cut ∙ rw (some_cut_lem cs cuts, room_enough s list n r)

  -- with no cut there is nothing more to ask
  pub no_cut_case : first_case cut ≡ None → cs ≡ [] → first_case (cut ++ last) ≡ Some 0
  unfolding first_case is_empty
  no_cut_case none_cut e =
      let eight : Option ℕ = first_case (case NoRoom (room_short s list n) ∷ []) in
      first_skip cut last none_cut ∙ ap (λ (places : List ℕ). cond (is_empty places) (Some 0) eight) e
