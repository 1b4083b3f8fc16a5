-- New lookups, and every link to an old one led to its new one: bytes, links, the store after it, and what it needs. Assumes nothing.
use Rattle.std.specs.Prelude.{ℕ, ◌+◌, ◌*◌, Bool, cond, List, [], ◌∷◌, ◌++◌, map, length, get_or, drop, replicate, leb, eqb, Option, Some, None}
use Rattle.folds.specs.Folds.{all, sum, flat, upto}
use Rattle.folds.specs.Lists.{join, part, sift}
use Rattle.ot_layouts.specs.Numbers.{be16}
use Rattle.ot_layouts.specs.Lookup.{subtable_count, lookup_header}
use Rattle.store_rules.specs.Store.{Store, Link, leading_to, links_of, bytes_of}
use Rattle.store_rules.specs.Appended.{appended}
use Rattle.store_rules.specs.InOrder.{in_order}
use Rattle.store_rules.specs.SlotLinks.{links_from, slot_links}
use Rattle.call_rules.specs.declared.Needs.{Needs}
use Rattle.call_rules.specs.Needs.{together}
use Rattle.pair_rules.specs.Written.{needed, split_store, new_tables}
use Rattle.lookup_rules.specs.Listed.{leads_to, subtable_slots, rewritten}

-- ---- a new lookup

-- "the new tables directly after each listing of the old one and later subtables moving up in order": t is the old one, us are the new ones
unfoldable pub entered : ℕ → List ℕ → List (Option ℕ) → List (Option ℕ)
entered t us [] = []
entered t us (o ∷ os) = o ∷ cond (leads_to t o) (map Some us ++ entered t us os) (entered t us os)

-- the slots of the new lookup for p
unfoldable pub new_slots : Store → ℕ → List ℕ → ℕ → List (Option ℕ)
new_slots s t us p = entered t us (subtable_slots s p)

-- "its count set, offset bytes zero, the rest copied": from the old bytes and the new count
unfoldable pub new_lookup : List ℕ → ℕ → List ℕ
new_lookup b n = part b 0 4 ++ be16 n ++ replicate (2 * n) 0 ++ drop (lookup_header + 2 * subtable_count b) b

-- the links of lookup u with these slots
abbrev pub subtable_links : ℕ → List (Option ℕ) → List Link
subtable_links u os = slot_links u lookup_header 2 (λ i. get_or os i None) (length os)

-- ---- all of them: us are the new tables, ps the lookups to rewrite

-- new lookup m is that for lookup m of ps
unfoldable pub new_lookups : Store → ℕ → List ℕ → List ℕ → List (List ℕ)
new_lookups s t us ps = upto (λ m. new_lookup (bytes_of s (get_or ps m 0)) (length (new_slots s t us (get_or ps m 0)))) (length ps)

-- their links, where the first of them has number n
unfoldable pub new_lookup_links : Store → ℕ → List ℕ → List ℕ → ℕ → List Link
new_lookup_links s t us ps n = flat (λ m. subtable_links (n + m) (new_slots s t us (get_or ps m 0))) (length ps)

-- ---- redirection

-- "every link to the old lookup then leads to the new one": of the lookups ps, whose new ones have the numbers from n on
unfoldable pub redirect : ℕ → List ℕ → ℕ → ℕ
redirect n [] c = c
redirect n (p ∷ ps) c = cond (eqb c p) n (redirect (n + 1) ps c)

-- a link, redirected: "request 3 redirects both kinds"
unfoldable pub redirected : ℕ → List ℕ → Link → Link
redirected n ps l = leading_to (redirect n ps l.child) l

-- ---- the store after it

-- the new lookups stand behind all objects of the split: s' is the store s after the split of t into itself and us. An order-only link goes by its child, so
-- that a redirected one comes behind its parent's others
unfoldable pub entered_store : Store → ℕ → List ℕ → List ℕ → Store → Store
entered_store s t us ps s' =
    appended s' (new_lookups s t us ps) (in_order (map (redirected s'.object_count ps) (links_of s' ++ new_lookup_links s t us ps s'.object_count)))

-- "split, then write each type 2 lookup of the list that names it as a new object"
unfoldable pub lookup_store : Store → ℕ → ℕ → List ℕ → Store
lookup_store s l t cs = entered_store s t (new_tables s t cs) (rewritten s l t) (split_store s t cs)

-- ---- 10, and what 8 counts

-- not "more than 65,535 subtables in one", empty slots counted too
abbrev pub count_fits : List (Option ℕ) → Bool
count_fits os = leb (length os) 65535

-- 10 does not apply
unfoldable pub counts_fit : Store → ℕ → List ℕ → List ℕ → Bool
counts_fit s t us ps = all (λ m. count_fits (new_slots s t us (get_or ps m 0))) (length ps)

-- how often the slots list t
unfoldable pub listings : ℕ → List (Option ℕ) → ℕ
listings t os = length (sift (leads_to t) os)

-- the links of the new lookup for p: as many as p has, and at each listing one for each new table
unfoldable pub links_needed : Store → ℕ → List ℕ → ℕ → ℕ
links_needed s t us p = links_from s p + length us * listings t (subtable_slots s p)

-- what the new lookups need
unfoldable pub lookups_need : Store → ℕ → List ℕ → List ℕ → Needs
lookups_need s t us ps =
    record {
      objects = length ps;
      links = sum (λ m. links_needed s t us (get_or ps m 0)) (length ps);
      bytes = length (join (new_lookups s t us ps));
      entries = 0;
    }

-- "8 counts split and lookups together"
unfoldable pub needed_in_all : Store → ℕ → ℕ → List ℕ → Needs
needed_in_all s l t cs = together (needed s t cs) (lookups_need s t (new_tables s t cs) (rewritten s l t))

-- all of this file's definitions, for checks that compute
unfoldable pub computes : Unit {0}
unfolding entered new_slots new_lookup new_lookups new_lookup_links redirect redirected entered_store lookup_store counts_fit listings links_needed lookups_need needed_in_all
computes = tt
