-- "room short: objects, links, data or the result list": check 8, over what a call needs. Assumes nothing.
use Rattle.std.specs.Prelude.{ℕ, ◌+◌, ◌≤◌, Bool, ◌||◌, List, [], ◌∷◌, length, get_or, ltb}
use Rattle.store_rules.specs.Store.{Store, byte_room, object_room, link_room}
use Rattle.call_rules.specs.declared.Lent.{Lent}
use Rattle.call_rules.specs.declared.Needs.{Needs}

-- what is lent with a store and a result list
abbrev pub lent_of : Store → List ℕ → Lent
lent_of s list = record { «data» = length s.bytes; objects = length s.objects; links = length s.links; list = length list }

-- the counts in use, in their order
abbrev pub counts_of : Store → List ℕ
counts_of s = s.byte_count ∷ s.object_count ∷ s.link_count ∷ []

-- no count in use passes the room
pub record InUse (lent : Lent) (counts : List ℕ) : Type 0 where
  pub bytes : get_or counts 0 0 ≤ byte_room lent.«data»
  pub objects : get_or counts 1 0 ≤ object_room lent.objects
  pub links : get_or counts 2 0 ≤ link_room lent.links

-- what two parts of a call need together
abbrev pub together : Needs → Needs → Needs
together a b =
    record { objects = a.objects + b.objects; links = a.links + b.links; bytes = a.bytes + b.bytes; entries = a.entries + b.entries }

-- 8: what is lent is too little for what is in use and what is needed
unfoldable pub short_by : Lent → List ℕ → Needs → Bool
short_by lent counts n =
    ltb (object_room lent.objects) (get_or counts 1 0 + n.objects)
    || ltb (link_room lent.links) (get_or counts 2 0 + n.links)
    || ltb (byte_room lent.«data») (get_or counts 0 0 + n.bytes)
    || ltb lent.list n.entries

-- the same, of a store and a result list
abbrev pub room_short : Store → List ℕ → Needs → Bool
room_short s list n = short_by (lent_of s list) (counts_of s) n

-- all of this file's definitions, for checks that compute
unfoldable pub computes : Unit {0}
unfolding short_by
computes = tt
