-- `pair_reading::both` meets its contract: each list is copied to its half. Assumes nothing.
use Rattle.std.proofs.Common.{◌≡◌, refl, length, ◌∙◌, ap₂, rules, List, ◌++◌, ℤ, pos, replicate}
use borrow.Rule.Slice.PartMut.{post_of, put_mid}
use Rattle.pair_reading.proofs.Halves.{halves}
use Rattle.pair_reading.proofs.both.Goals as goal

-- what the two halves are written over
abbrev zeros : List ℤ
zeros = replicate 16 (pos 0)

pub returns : goal.returns
returns c =
    let a = c.args in
    let l : length a.first ≡ 8 = search rules in
    let m : length a.second ≡ 8 = search rules in
    ap₂ (λ (xs ys : List ℤ). put_mid 8 8 (xs ++ post_of 0 8 zeros) ys) c.copy_from_slice.ensures.after c.copy_from_slice-2.ensures.after
    ∙ halves a.first a.second l m zeros refl
