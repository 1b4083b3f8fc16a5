-- Answers, scratch and outcomes held against small cases, as one check; each line pins what its comment says. Assumes nothing.
use Rattle.std.specs.Prelude.{Option, Some, None, Result, Ok, Err, ◌⊎◌}
use Rattle.std.proofs.Common.{inl, inr}
use Prim.Native.Nat.{ℕ, ◌+◌, ◌-◌, ◌*◌}
use mathlib.Core.Path.{◌≡◌, refl}
use mathlib.Core.Bool.{Bool, true, false, not}
use mathlib.Core.List.{List, [], ◌∷◌, map}
use lib.ListN.{replicate}
use lib.Dec.{eqb}
use denote.MutBor.{MutBor}
use Rattle.folds.specs.Lists as Lists
use Rattle.folds.specs.Moments.{Buffer}
use Rattle.folds.proofs.Compared as compared
use Rattle.folds.proofs.Compared.{same, every}
use Rattle.store_rules.specs.Store as Store
use Rattle.store_rules.specs.Store.{Store, per_link}
use Rattle.call_rules.specs.declared.Answer.{Answer}
use Rattle.call_rules.specs.declared.Answer.TheVariants.{
  Done,
  BadEdition,
  Unsound,
  NoTable,
  BadList,
  BadTable,
  BadParts,
  FewGlyphs,
  ShortScratch,
  BadLinks,
  UnsortedSets,
  ManySubtables,
  NoRoom,
}
use Rattle.call_rules.specs.Answers as Answers
use Rattle.call_rules.specs.Answers.{number, refusal, numbered, answer_of, count_of, case, first_case}
use Rattle.call_rules.specs.Settings as Settings
use Rattle.call_rules.specs.Settings.{settings_of, settings_cases}
use Rattle.call_rules.specs.Scratch as Scratch
use Rattle.call_rules.specs.Scratch.{scratch_of, lengths_of, lengths_short, cleared}
use Rattle.call_rules.specs.Needs as goal
use Rattle.call_rules.specs.Needs.{lent_of, counts_of, together, short_by, room_short}
use Rattle.call_rules.specs.Moments.{scratch_came, scratch_left, scratch_now}
use Rattle.call_rules.specs.Outcomes as Outcomes
use Rattle.call_rules.specs.Outcomes.{Outcome, outcome, done, settle}

-- an answer and its number; 99 where no case applies
unfoldable pub answered : Option ℕ → ℕ
answered (Some n) = n
answered None = 99

-- a step that has made a number, and one that has the call's answer
abbrev made : ℕ → Result ℕ Answer
made n = Ok n

abbrev refused : Answer → Result ℕ Answer
refused a = Err a

-- on one side the number, on the other one more
unfoldable pub either_one : ℕ ⊎ ℕ → ℕ
either_one (inl n) = n
either_one (inr n) = n + 1

-- a store with so many bytes in use
unfoldable pub store : ℕ → Store
store n = record { bytes = 1 ∷ 2 ∷ 3 ∷ []; objects = 0 ∷ 2 ∷ []; links = []; byte_count = n; object_count = 1; link_count = 0 }

-- no two parts of it have the same length
abbrev scratch : Scratch.Scratch
scratch = scratch_of (5 ∷ 6 ∷ []) (7 ∷ 7 ∷ 7 ∷ []) (8 ∷ []) (9 ∷ 9 ∷ 9 ∷ 9 ∷ []) (4 ∷ 3 ∷ 2 ∷ 1 ∷ 1 ∷ [])

-- scratch that holds fives, of these lengths
unfoldable pub fives : ℕ → ℕ → ℕ → ℕ → ℕ → Scratch.Scratch
fives w b g c k = record { walk = replicate w 5; set = replicate b 5; glyphs = replicate g 5; classes = replicate c 5; cuts = replicate k 5 }

-- each part of it has these numbers
unfoldable pub holds : Scratch.Scratch → List ℕ → List ℕ → List ℕ → List ℕ → List ℕ → Bool
holds w walk set glyphs classes cuts =
    every (same w.walk walk ∷ same w.set set ∷ same w.glyphs glyphs ∷ same w.classes classes ∷ same w.cuts cuts ∷ [])

-- a reference to these numbers
abbrev to : List ℕ → MutBor (List ℕ)
to xs = record { ref_ptr = (0, 0); ghost_name = 0; now = xs }

-- a buffer that comes with the first number and is left with the second
abbrev buffer : ℕ → ℕ → Buffer
buffer x y = record { entry = to (x ∷ []); exit = to (y ∷ []) }

-- all of it zero
unfoldable pub zeroed : Scratch.Scratch → Bool
zeroed w = holds w (0 ∷ 0 ∷ []) (0 ∷ 0 ∷ 0 ∷ []) (0 ∷ []) (0 ∷ 0 ∷ 0 ∷ 0 ∷ []) (0 ∷ 0 ∷ 0 ∷ 0 ∷ 0 ∷ [])

-- answer, count, bytes in use and list, and that the scratch is zero
unfoldable pub leaves : Outcome → ℕ → ℕ → ℕ → List ℕ → Bool
leaves o n k bytes list = every (eqb o.answer n ∷ eqb o.count k ∷ eqb o.store.byte_count bytes ∷ same o.list list ∷ zeroed o.scratch ∷ [])

-- scratch of these lengths is too short for five objects, seven covered glyphs and three items
unfoldable pub too_short : ℕ → ℕ → ℕ → ℕ → ℕ → Bool
too_short w b g c k = lengths_short (record { walk = w; glyph_set = b; glyphs = g; classes = c; cuts = k }) 5 7 3

-- so much data, object rows, link rows and list is too little beside these counts for two objects, four links, six bytes and three entries
unfoldable pub too_little : List ℕ → ℕ → ℕ → ℕ → ℕ → Bool
too_little counts d o l k = short_by (record { «data» = d; objects = o; links = l; list = k }) counts (record { objects = 2; links = 4; bytes = 6; entries = 3 })

abbrev used : List ℕ
used = 10 ∷ 3 ∷ 2 ∷ []

unfoldable pub pins : List Bool
pins =
    -- `number`: the table of answers
    same
    (number Done ∷ number BadEdition ∷ number Unsound ∷ number NoTable ∷ number BadList ∷ number BadTable ∷ number BadParts ∷ number FewGlyphs ∷ number ShortScratch
    ∷ number BadLinks ∷ number UnsortedSets ∷ number ManySubtables ∷ number NoRoom ∷ [])
    (0 ∷ 12 ∷ 1 ∷ 2 ∷ 9 ∷ 3 ∷ 4 ∷ 5 ∷ 6 ∷ 7 ∷ 11 ∷ 10 ∷ 8 ∷ [])
    -- `refusal`, `numbered`, `answer_of`, `count_of`: of what was made, and of an answer
    ∷ same (answered (refusal (made 5)) ∷ either_one (numbered (made 5)) ∷ answer_of (made 5) ∷ count_of (made 5) ∷ []) (99 ∷ 6 ∷ 0 ∷ 5 ∷ [])
    ∷ same (answered (refusal (refused NoRoom)) ∷ either_one (numbered (refused NoRoom)) ∷ answer_of (refused NoRoom) ∷ count_of (refused NoRoom) ∷ [])
    (8 ∷ 8 ∷ 8 ∷ 0 ∷ [])
    -- `first_case`: the first that applies
    ∷ eqb (answered (first_case (case NoTable false ∷ case BadLinks true ∷ case NoRoom true ∷ []))) 7
    ∷ eqb (answered (first_case (case NoTable false ∷ []))) 99
    -- `settings_cases`: 1 and 2 are editions, and what stands beside them is none
    ∷ same (map (λ e. answered (first_case (settings_cases (settings_of e)))) (0 ∷ 1 ∷ 2 ∷ 3 ∷ 65537 ∷ [])) (12 ∷ 99 ∷ 99 ∷ 12 ∷ 12 ∷ [])
    -- `scratch_of`, `lengths_of`: each part in its place
    ∷ holds scratch (5 ∷ 6 ∷ []) (7 ∷ 7 ∷ 7 ∷ []) (8 ∷ []) (9 ∷ 9 ∷ 9 ∷ 9 ∷ []) (4 ∷ 3 ∷ 2 ∷ 1 ∷ 1 ∷ [])
    ∷ same ((lengths_of scratch).walk ∷ (lengths_of scratch).glyph_set ∷ (lengths_of scratch).glyphs ∷ (lengths_of scratch).classes ∷ (lengths_of scratch).cuts ∷ [])
    (2 ∷ 3 ∷ 1 ∷ 4 ∷ 5 ∷ [])
    -- `scratch_came`, `scratch_left`, `scratch_now`: each buffer in its place, at its moment
    ∷ holds (scratch_came (buffer 1 6) (buffer 2 7) (buffer 3 8) (buffer 4 9) (buffer 5 10)) (1 ∷ []) (2 ∷ []) (3 ∷ []) (4 ∷ []) (5 ∷ [])
    ∷ holds (scratch_left (buffer 1 6) (buffer 2 7) (buffer 3 8) (buffer 4 9) (buffer 5 10)) (6 ∷ []) (7 ∷ []) (8 ∷ []) (9 ∷ []) (10 ∷ [])
    ∷ holds (scratch_now (to (1 ∷ [])) (to (2 ∷ [])) (to (3 ∷ [])) (to (4 ∷ [])) (to (5 ∷ []))) (1 ∷ []) (2 ∷ []) (3 ∷ []) (4 ∷ []) (5 ∷ [])
    -- `lengths_short`: enough, and each part one too short
    ∷ not (too_short 10 8192 7 7 3)
    ∷ too_short 9 8192 7 7 3 ∷ too_short 10 8191 7 7 3 ∷ too_short 10 8192 6 7 3 ∷ too_short 10 8192 7 6 3 ∷ too_short 10 8192 7 7 2
    -- `cleared`: all of it, at its length
    ∷ zeroed (cleared scratch)
    -- `lent_of`, `counts_of`: each in its place
    ∷ same ((lent_of (store 2) (9 ∷ [])).«data» ∷ (lent_of (store 2) (9 ∷ [])).objects ∷ (lent_of (store 2) (9 ∷ [])).links ∷ (lent_of (store 2) (9 ∷ [])).list ∷ [])
    (3 ∷ 2 ∷ 0 ∷ 1 ∷ [])
    ∷ same (counts_of (store 2)) (2 ∷ 1 ∷ 0 ∷ [])
    -- `short_by`: enough, each one too little, and nothing in use
    ∷ not (too_little used 16 10 (per_link * 6) 3)
    ∷ too_little used 15 10 (per_link * 6) 3 ∷ too_little used 16 9 (per_link * 6) 3 ∷ too_little used 16 10 (per_link * 6 - 1) 3 ∷ too_little used 16 10 (per_link * 6) 2
    ∷ not (too_little [] 6 4 (per_link * 4) 3)
    -- `together`: each in its place
    ∷ same
    (let n = together (record { objects = 2; links = 4; bytes = 6; entries = 3 }) (record { objects = 10; links = 20; bytes = 30; entries = 40 }) in
    n.objects ∷ n.links ∷ n.bytes ∷ n.entries ∷ [])
    (12 ∷ 24 ∷ 36 ∷ 43 ∷ [])
    -- `room_short`: of a store and a list
    ∷ not (room_short (store 2) (9 ∷ []) (record { objects = 0; links = 0; bytes = 1; entries = 1 }))
    ∷ room_short (store 2) (9 ∷ []) (record { objects = 0; links = 0; bytes = 2; entries = 1 })
    ∷ room_short (store 2) [] (record { objects = 0; links = 0; bytes = 1; entries = 1 })
    -- `outcome`: each in its place
    ∷ leaves (outcome 7 3 (store 2) (1 ∷ 2 ∷ []) (cleared scratch)) 7 3 2 (1 ∷ 2 ∷ [])
    -- `done`: the list starts with what is reported, which is counted
    ∷ leaves (done (store 1) (3 ∷ []) (1 ∷ 2 ∷ []) scratch) 0 1 1 (3 ∷ 2 ∷ [])
    -- `settle`: an answer that stands counts nothing and keeps store and list
    ∷ leaves (settle (Some 7) (store 2) (1 ∷ 2 ∷ []) scratch (done (store 1) (3 ∷ []) (1 ∷ 2 ∷ []) scratch)) 7 0 2 (1 ∷ 2 ∷ [])
    ∷ leaves (settle None (store 2) (1 ∷ 2 ∷ []) scratch (done (store 1) (3 ∷ []) (1 ∷ 2 ∷ []) scratch)) 0 1 1 (3 ∷ 2 ∷ [])
    ∷ []

pub pinned : every pins ≡ true
unfolding Lists.computes compared.computes Store.computes Answers.computes Settings.computes Scratch.computes goal.computes Outcomes.computes answered either_one store holds zeroed leaves too_short too_little pins
pinned = refl
