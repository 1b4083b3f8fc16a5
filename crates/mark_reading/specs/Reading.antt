-- An attachment as the code holds it, and where it is looked for. Assumes nothing.
use Rattle.std.specs.Prelude.{ℕ, List, ltb, Option, Some, None}
use Rattle.folds.specs.Lists.{given, and_then}
use Rattle.ot_layouts.specs.Coverage.{cover_place}
use Rattle.ot_layouts.specs.MarkBasePos.{mark_class}
use Rattle.store_rules.specs.Store.{Store}
use Rattle.mark_rules.specs.Table.{mark_bytes, mark_anchor, base_anchor}
use Rattle.mark_rules.specs.Attachments as Attachments
use Rattle.mark_rules.specs.Attachments.{anchors}
use Rattle.mark_rules.specs.Calls.{MarkOutcome}
use Rattle.mark_reading.specs.declared.anchors.Anchors.{Anchors}

-- the attachment that was found, if any
abbrev pub attached_as : Option Anchors → Option Attachments.Anchors
attached_as (Some a) = Some (anchors a.mark a.base)
attached_as None = None

-- the glyph's place in a coverage, where it is one of the first n
unfoldable pub place_below : List ℕ → ℕ → ℕ → Option ℕ
place_below b g n = and_then (cover_place b g) λ i. given (ltb i n) i

-- what mark i and, for its class, base j are linked to
unfoldable pub attach_at : Store → ℕ → ℕ → ℕ → Option Attachments.Anchors
attach_at s t i j =
    and_then (mark_anchor s t i) λ a.
    and_then (base_anchor s t j (mark_class (mark_bytes s t) i)) λ c.
    Some (anchors a c)

-- for contracts
abbrev pub mark_outcome : ℕ → ℕ → List ℕ → MarkOutcome
mark_outcome n found two = record { answer = n; found = found; anchors = two }
