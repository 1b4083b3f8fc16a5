-- `compact_call::check` meets its contract: the checks in their order. Assumes nothing.
use mathlib.Core.Path.{◌≡◌, sym, ap, ◌∙◌}
use mathlib.Core.Bool.{Bool, true, false, not}
use native.Mathlib.Omega.{arith}
use borrow.Author.Tests.{not-true, not-false}
use Rattle.store_rules.specs.Store.{Store, lent, sound}
use Rattle.store_rules.proofs.Sound.{sound_fits}
use Rattle.compact_rules.proofs.Cases.{first_unsound, first_no_root, first_short, first_none}
use Rattle.compact_call.proofs.check.Goals as goal

-- what a test was, by its negation
was : {t b : Bool} → t ≡ b → not t ≡ false → b ≡ true
was {t} e h = sym e ∙ not-false t h

was-not : {t b : Bool} → t ≡ b → not t ≡ true → b ≡ false
was-not {t} e h = sym e ∙ not-true t h

pub returns-then-not-is_sound : goal.returns-then-not-is_sound
returns-then-not-is_sound c =
    let store : Store = lent c.args.«data».now c.args.objects.now c.args.links.now c.args.counts in
    first_unsound (store) c.args.roots.now c.args.walk.now (was-not c.is_sound.ensures (ap not c.if-not-is_sound.true))

pub returns-then-not-roots_used : goal.returns-then-not-roots_used
returns-then-not-roots_used c =
    let store : Store = lent c.args.«data».now c.args.objects.now c.args.links.now c.args.counts in
    let whole : Store = store in
    let sounds : sound whole ≡ true = was c.is_sound.ensures (ap not c.if-not-is_sound.false) in
    first_no_root (store) c.args.roots.now c.args.walk.now (sounds) (was-not c.roots_used.ensures (ap not c.if-not-roots_used.true))

pub overflow_mul-counts : goal.overflow_mul-counts
overflow_mul-counts c =
    let store : Store = lent c.args.«data».now c.args.objects.now c.args.links.now c.args.counts in
    let whole : Store = store in
    let sounds : sound whole ≡ true = was c.is_sound.ensures (ap not c.if-not-is_sound.false) in
    omega (arith, (sound_fits (whole) (sounds)).objects_most)

pub returns-then-walk-counts : goal.returns-then-walk-counts
returns-then-walk-counts c =
    let store : Store = lent c.args.«data».now c.args.objects.now c.args.links.now c.args.counts in
    let whole : Store = store in
    let sounds : sound whole ≡ true = was c.is_sound.ensures (ap not c.if-not-is_sound.false) in
    first_short (store) c.args.roots.now c.args.walk.now (sounds) (was c.roots_used.ensures (ap not c.if-not-roots_used.false))
    (omega (arith, c.if-walk-counts.true))

pub returns : goal.returns
returns c =
    let store : Store = lent c.args.«data».now c.args.objects.now c.args.links.now c.args.counts in
    let whole : Store = store in
    let sounds : sound whole ≡ true = was c.is_sound.ensures (ap not c.if-not-is_sound.false) in
    first_none (store) c.args.roots.now c.args.walk.now (sounds) (was c.roots_used.ensures (ap not c.if-not-roots_used.false))
    (omega (arith, c.if-walk-counts.false))
