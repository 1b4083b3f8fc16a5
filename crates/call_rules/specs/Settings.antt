-- How a call cuts, and what is asked of that before all else. Assumes nothing.
use Rattle.std.specs.Prelude.{ℕ, Bool, not, ◌||◌, List, [], ◌∷◌, eqb}
use Rattle.call_rules.specs.declared.Answer.TheVariants.{BadEdition}
use Rattle.call_rules.specs.declared.Settings.{Settings}
use Rattle.call_rules.specs.Answers.{Case, case}

-- "the edition is a number in the call"
abbrev pub settings_of : ℕ → Settings
settings_of e = record { edition = e }

-- document 01's rule: "Edition 1 stays for fielded fonts"
abbrev pub first_edition : Settings
first_edition = settings_of 1

-- "Second edition of the cutting rule."
abbrev pub second_edition : Settings
second_edition = settings_of 2

-- the edition is 1 or 2
unfoldable pub known : Settings → Bool
known how = eqb how.edition 1 || eqb how.edition 2

-- 12: "edition not 1 or 2, before all others"
unfoldable pub settings_cases : Settings → List Case
settings_cases how = case BadEdition (not (known how)) ∷ []

-- all of this file's definitions, for checks that compute
unfoldable pub computes : Unit {0}
unfolding known settings_cases
computes = tt
