-- "Given a list of roots, keep what kind 0 links reach from them": what is kept, and where each kept object goes. Assumes nothing.
use Rattle.std.specs.Prelude.{ℕ, Bool, cond, ◌&&◌, ◌||◌, List}
use Rattle.folds.specs.Folds.{sum}
use Rattle.folds.specs.Lists.{among}
use Rattle.store_rules.specs.Store.{Store, Link, link_at, is_offset, size_of}
use Rattle.store_rules.specs.Reach.{marked, reached}

-- the link is an offset of a root: "kind 0 links"
abbrev pub of_roots : List ℕ → Link → Bool
of_roots roots l = is_offset l && among l.parent roots

-- and so is row k
abbrev pub from_roots : Store → List ℕ → ℕ → Bool
from_roots s roots k = of_roots roots (link_at s k)

-- an object is a root or has a mark
unfoldable pub kept_by : List ℕ → List ℕ → ℕ → Bool
kept_by marks roots i = among i roots || marked marks i

-- "keep what kind 0 links reach from them", and the roots themselves
abbrev pub kept : Store → List ℕ → ℕ → Bool
kept s roots = kept_by (reached s (from_roots s roots)) roots

-- "renumber objects", "in the old order": how many kept ones stand below
unfoldable pub renumber : (ℕ → Bool) → ℕ → ℕ
renumber keep i = sum (λ j. cond (keep j) 1 0) i

-- "close all gaps": the head of a kept object then is the summed length of the kept ones below
unfoldable pub head_then : Store → (ℕ → Bool) → ℕ → ℕ
head_then s keep i = sum (λ j. cond (keep j) (size_of s j) 0) i

-- all of this file's definitions, for checks that compute
unfoldable pub computes : Unit {0}
unfolding kept_by renumber head_then
computes = tt
