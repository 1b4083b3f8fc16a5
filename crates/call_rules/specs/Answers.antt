-- "Answer numbers": the number of each answer, what a step's result says of it, and the first of several cases that applies. Assumes nothing.
use Rattle.std.specs.Prelude.{ℕ, Bool, cond, List, [], ◌∷◌, ◌⊎◌, Option, Some, None, Result, Ok, Err}
use Rattle.std.proofs.Common.{inl, inr}
use Rattle.call_rules.specs.declared.Answer.{Answer}
use Rattle.call_rules.specs.declared.Answer.TheVariants.{
  Done,
  BadEdition,
  Unsound,
  NoTable,
  BadList,
  BadTable,
  BadParts,
  FewGlyphs,
  ShortScratch,
  BadLinks,
  UnsortedSets,
  ManySubtables,
  NoRoom,
}

-- the number of each answer: document 01's, and 9 to 12 of document 02; the order in which they are asked is that of the names
abbrev pub number : Answer → ℕ
number Done = 0
number BadEdition = 12
number Unsound = 1
number NoTable = 2
number BadList = 9
number BadTable = 3
number BadParts = 4
number FewGlyphs = 5
number ShortScratch = 6
number BadLinks = 7
number UnsortedSets = 11
number ManySubtables = 10
number NoRoom = 8

-- the number where a step has the call's answer; none where the call goes on
abbrev pub refusal : {A : Type 0} → Result A Answer → Option ℕ
refusal (Ok x) = None
refusal (Err a) = Some (number a)

-- the number where a step has the call's answer, or else what the step has made
abbrev pub numbered : {A : Type 0} → Result A Answer → ℕ ⊎ A
numbered (Ok x) = inr x
numbered (Err a) = inl (number a)

-- the number of a whole call, which is 0 where nothing has refused it
abbrev pub answer_of : {A : Type 0} → Result A Answer → ℕ
answer_of (Ok x) = 0
answer_of (Err a) = number a

-- how many it counts, which is 0 beside any answer that is not its own
abbrev pub count_of : Result ℕ Answer → ℕ
count_of (Ok k) = k
count_of (Err a) = 0

-- an answer, and when it applies
pub record Case : Type 0 where
  pub applies : Bool
  pub answer : ℕ

-- answer a where b
abbrev pub case : Answer → Bool → Case
case a b = record { applies = b; answer = number a }

-- the answer of the first case that applies; none where the call goes ahead
unfoldable pub first_case : List Case → Option ℕ
first_case [] = None
first_case (c ∷ cs) = cond c.applies (Some c.answer) (first_case cs)

-- all of this file's definitions, for checks that compute
unfoldable pub computes : Unit {0}
unfolding first_case
computes = tt
