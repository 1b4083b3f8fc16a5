-- `call_scratch::clear_scratch` meets its contract: one after another. Assumes nothing.
use Rattle.call_rules.specs.Scratch.{scratch_of, cleared}
use Rattle.call_scratch.proofs.clear_scratch.Goals as goal

pub returns : goal.returns
unfolding cleared
returns c =
    λ i. scratch_of (c.fill.ensures.after (λ y e. e) i) (c.fill-2.ensures.after (λ y e. e) i) (c.fill-3.ensures.after (λ y e. e) i)
    (c.fill-4.ensures.after (λ y e. e) i) (c.fill-5.ensures.after (λ y e. e) i)
