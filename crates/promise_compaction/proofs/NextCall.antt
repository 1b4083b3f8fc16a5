-- Two calls that ask the same, but for 6 and 8, of which the second asks for less: what the second answers. Assumes nothing.
use Rattle.std.specs.Prelude.{Option, Some, None}
use Prim.Native.Nat.{ℕ, ◌<◌}
use mathlib.Core.Path.{◌≡◌, refl, sym, ap, ◌∙◌}
use mathlib.Core.Bool.{Bool, true, false, cond, not, ◌&&◌, ◌||◌}
use mathlib.Core.List.{List, [], ◌∷◌, ◌++◌}
use native.Mathlib.Omega.{arith}
use lib.ListN.{length}
use lib.Dec.{eqb}
use borrow.Author.Tests.{eq-eqb, not-true}
use Rattle.folds.specs.Folds.{or_else}
use Rattle.folds.specs.Lists.{given, is_empty}
use Rattle.folds.proofs.Tests.{and_both, true_false}
use Rattle.store_rules.specs.Store.{Store}
use Rattle.call_rules.specs.declared.Answer.TheVariants.{Done, ShortScratch, BadLinks, NoRoom}
use Rattle.call_rules.specs.declared.Needs.{Needs}
use Rattle.call_rules.specs.Answers.{Case, case, first_case}
use Rattle.call_rules.specs.Scratch.{Scratch}
use Rattle.call_rules.specs.Needs.{room_short}
use Rattle.call_rules.specs.Outcomes.{Outcome, done, settle}
use Rattle.call_rules.proofs.Cases.{first_head, first_append, first_either}
use Rattle.promise_calls.proofs.Asked.{not_empty}
use Rattle.promise_compaction.specs.Rests.{freed, short_having, RoomFreed}
use Rattle.promise_compaction.specs.NextSplits.{NextCall}
use Rattle.promise_compaction.proofs.Rests.{room_stays}

-- ---- the first case, where 6 stands behind f, and 8 last, behind m

abbrev asked : Option ℕ → Bool → Option ℕ → Bool → Option ℕ
asked f six m eight = or_else f (or_else (given six 6) (or_else m (given eight 8)))

-- all but 6 and 8 is asked alike, and these are asked for less
record Alike (m m' : Option ℕ) (six six' eight eight' : Bool) : Type 0 where
  same : m' ≡ m
  fewer : six ≡ false → six' ≡ false
  roomier : eight ≡ false → eight' ≡ false

module _ {m' : Option ℕ} {six' eight' : Bool} where
  -- any number but 6 and 8 stays
  stays : (f : Option ℕ) (six : Bool) (m : Option ℕ) (eight : Bool) → (f ≡ None → Alike m m' six six' eight eight')
      → (asked f six m eight ≡ Some 6 → ⊥) → (asked f six m eight ≡ Some 8 → ⊥) → asked f six' m' eight' ≡ asked f six m eight
  stays (Some n) six m eight h a b = refl
  stays None true m eight h a b = absurd (a refl)
  stays None false (Some n) eight h a b = rw ((h refl).same, (h refl).fewer refl)
  stays None false None true h a b = absurd (b refl)
  stays None false None false h a b = rw ((h refl).same, (h refl).fewer refl, (h refl).roomier refl)

  -- where 8 was the first, nothing else refuses
  eighth : (f : Option ℕ) (six : Bool) (m : Option ℕ) (eight : Bool) → (f ≡ None → Alike m m' six six' eight eight')
      → (f ≡ Some 8 → ⊥) → (m ≡ Some 8 → ⊥) → asked f six m eight ≡ Some 8 → (f ≡ None) × (asked f six' m' eight' ≡ given eight' 8)
  eighth (Some n) six m eight h a b e = absurd (a e)
  eighth None true m eight h a b e = let z : ◌≡◌ {A = ℕ} 6 8 = cc in absurd (omega arith)
  eighth None false (Some n) eight h a b e = absurd (b e)
  eighth None false None eight h a b e = (refl, rw ((h refl).same, (h refl).fewer refl))

-- ---- the cases of a call that splits

-- none of these cases answers 8
unfoldable pub no_eight : List Case → Bool
no_eight [] = true
no_eight (c ∷ cs) = not (eqb c.answer 8) && no_eight cs

not_eighth : (cs : List Case) → no_eight cs ≡ true → first_case cs ≡ Some 8 → ⊥
unfolding first_case no_eight
not_eighth [] a e = let z : ◌≡◌ {A = ℕ} 0 1 = cc in omega arith
not_eighth (c ∷ cs) a e = let (x, y) = and_both (not (eqb c.answer 8)) (no_eight cs) a in go c.applies x e (not_eighth cs y)
  where
    go : (b : Bool) → not (eqb c.answer 8) ≡ true → cond b (Some c.answer) (first_case cs) ≡ Some 8 → (first_case cs ≡ Some 8 → ⊥) → ⊥
    go true x e ih = let n : c.answer ≡ 8 = cc in true_false (sym (eq-eqb c.answer 8 n) ∙ not-true (eqb c.answer 8) x)
    go false x e ih = ih e

-- what it asks
pub record Asking : Type 0 where
  -- before 6
  pub front : List Case
  pub six : Bool
  -- 7, and what comes with it
  pub slots : Bool
  pub loop : Bool
  pub others : List Case
  -- where there is a cut
  pub cuts : List ℕ
  pub last : List Case
  -- 8
  pub needs : Needs

-- between 6 and 8
abbrev pub middle : Asking → List Case
middle a = case BadLinks (not a.slots || a.loop) ∷ (a.others ++ case Done (is_empty a.cuts) ∷ a.last)

abbrev pub cases_of : Store → List ℕ → Asking → List Case
cases_of s list a = a.front ++ case ShortScratch a.six ∷ (middle a ++ case NoRoom (room_short s list a.needs) ∷ [])

-- by what is asked first
one_case : (b : Bool) (n : ℕ) → first_case (record { applies = b; answer = n } ∷ []) ≡ given b n
unfolding first_case
one_case true n = refl
one_case false n = refl

first_of : (s : Store) (list : List ℕ) (a : Asking)
    → first_case (cases_of s list a) ≡ asked (first_case a.front) a.six (first_case (middle a)) (room_short s list a.needs)
first_of s list a =
    let eight : Bool = room_short s list a.needs in
    first_either a.front (case ShortScratch a.six ∷ (middle a ++ case NoRoom eight ∷ []))
    ∙ ap (or_else (first_case a.front))
    (first_either (case ShortScratch a.six ∷ []) (middle a ++ case NoRoom eight ∷ [])
    ∙ (λ i. or_else (one_case a.six 6 i) (first_either (middle a) (case NoRoom eight ∷ []) i))
    ∙ ap (λ (o : Option ℕ). or_else (given a.six 6) (or_else (first_case (middle a)) o)) (one_case eight 8))

-- where none applies there is a cut
none_cuts : (s : Store) (list : List ℕ) (a : Asking) → first_case (cases_of s list a) ≡ None → (first_case a.front ≡ None) × (0 < length a.cuts)
none_cuts s list a e =
    let (front, rest) = first_append a.front _ e in
    let (middles, eight) = first_append (middle a) _ (first_head _ _ rest).1 in
    let (others, lasts) = first_append a.others _ (first_head _ _ middles).1 in
    (front, not_empty a.cuts (first_head _ _ lasts).0)

-- ---- the same asked before and after

pub record AskedAlike (a b : Asking) : Type 0 where
  pub fewer : a.six ≡ false → b.six ≡ false
  pub slots : b.slots ≡ a.slots
  pub loop : b.loop ≡ a.loop
  pub others : b.others ≡ a.others
  pub cuts : b.cuts ≡ a.cuts
  pub last : b.last ≡ a.last
  pub needs : b.needs ≡ a.needs

-- no case but the last answers 8
pub record OneEight (a : Asking) : Type 0 where
  pub front : no_eight a.front ≡ true
  pub middle : no_eight (middle a) ≡ true

module _ (s s'' : Store) (xs : List ℕ) (left left'' : Store) (ys : List ℕ) (w : Scratch) (list : List ℕ) (rooms : RoomFreed s left)
    (a b : Asking) (front : first_case b.front ≡ first_case a.front) (alike : first_case a.front ≡ None → AskedAlike a b) (eights : OneEight a)
    (many : length xs ≡ length a.cuts) (many' : length ys ≡ length b.cuts) where
  abbrev first : Option ℕ
  first = first_case (cases_of s list a)

  abbrev second : Option ℕ
  second = first_case (cases_of left list b)

  abbrev short : Bool
  short = short_having (freed s left) s list a.needs

  -- what the two calls leave, where the first case is this
  abbrev before : Option ℕ → Outcome
  before c = settle c s list w (done s'' xs list w)

  abbrev after : Option ℕ → Outcome
  after c = settle c left list w (done left'' ys list w)

  second_of : second ≡ asked (first_case a.front) b.six (first_case (middle b)) (room_short left list b.needs)
  second_of = first_of left list b ∙ ap (λ (o : Option ℕ). asked o b.six (first_case (middle b)) (room_short left list b.needs)) front

  room : first_case a.front ≡ None → room_short left list b.needs ≡ short
  room e = ap (room_short left list) (alike e).needs ∙ rooms list a.needs

  parts : first_case a.front ≡ None
      → Alike (first_case (middle a)) (first_case (middle b)) a.six b.six (room_short s list a.needs) (room_short left list b.needs)
  parts e =
      let l = alike e in
      record {
        same = λ i. first_case (case BadLinks (not (l.slots i) || l.loop i) ∷ (l.others i ++ case Done (is_empty (l.cuts i)) ∷ l.last i));
        fewer = l.fewer;
        roomier = λ q. room e ∙ room_stays (freed s left) s list a.needs q;
      }

  -- 8 was the first: then it asks the freed room
  first_eighth : (before first).answer ≡ 8 → second ≡ given short 8
  unfolding settle done
  first_eighth e =
      let (front-none, given-eight) =
      eighth (first_case a.front) a.six (first_case (middle a)) (room_short s list a.needs) parts (not_eighth a.front eights.front) (not_eighth (middle a) eights.middle)
      (sym (first_of s list a) ∙ refused first e) in
      second_of ∙ given-eight ∙ ap (λ (x : Bool). given x 8) (room front-none)
    where
      refused : (c : Option ℕ) → (before c).answer ≡ 8 → c ≡ Some 8
      refused (Some n) q = ap Some q
      refused None q = absurd (omega arith)

  -- any other number but 6 stays
  first_stays : (first ≡ Some 6 → ⊥) → (first ≡ Some 8 → ⊥) → second ≡ first
  first_stays x y =
      let e = first_of s list a in
      second_of
      ∙ stays (first_case a.front) a.six (first_case (middle a)) (room_short s list a.needs) parts (λ q. x (e ∙ q)) (λ q. y (e ∙ q))
      ∙ sym e

  pub next_call : NextCall (before first) (after second) short
  unfolding settle done
  next_call =
      record {
        freed = λ e z. let q : second ≡ None = first_eighth e ∙ rw z in rw q (refl, omega (arith, many', (none_cuts left list b q).1));
        refused = λ e z. let q : second ≡ Some 8 = first_eighth e ∙ rw z in rw q;
        stays = λ x y.
            rw (first_stays (λ q. x (ap (λ (c : Option ℕ). (before c).answer) q)) (λ q. y (ap (λ (c : Option ℕ). (before c).answer) q))) (same first refl);
      }
    where
      same : (c : Option ℕ) → first ≡ c → ((after c).answer ≡ (before c).answer) × ((after c).count ≡ (before c).count)
      same (Some n) e = (refl, refl)
      same None e = (refl, many' ∙ ap length (alike (none_cuts s list a e).0).cuts ∙ sym many)
