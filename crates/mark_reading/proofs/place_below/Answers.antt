-- `mark_reading::place_below` meets its contract: by the place that is found, and by the count. Assumes nothing.
use Rattle.std.proofs.Common.{◌≡◌, ◌∙◌, rules}
use Rattle.std.specs.Prelude.{ltb}
use Rattle.std.proofs.lemmas.Option.{MatchOption-at_some, MatchOption-at_none}
use Rattle.mark_reading.proofs.Places.{by_place, none_covered, kept_place}
use Rattle.mark_reading.proofs.place_below.Goals as goal

pub returns : goal.returns
returns c l n =
    let a = c.args in
    let e = c.place_in.ensures l n in
    by_place c.place_in.result
    (λ y. MatchOption-at_none _ _ y c.filter.ensures ∙ none_covered _ _ _ e y)
    (λ i y.
    let (b, called, made) = MatchOption-at_some _ _ i y c.filter.ensures in
    let tested : b ≡ ltb i a.count = search rules in
    made ∙ kept_place _ _ _ e y tested)
