-- The checks 1 to 5 in a row: the first that applies answers. Assumes nothing.
use Rattle.std.specs.Prelude.{Some}
use Prim.Native.Nat.{ℕ, ◌≤◌, ◌<◌}
use mathlib.Core.Path.{◌≡◌}
use mathlib.Core.Bool.{true, false}
use native.Mathlib.Omega.{arith}
use lib.ListN.{length}
use borrow.Author.Tests.{lt-ltb, le-ltb, lt-leb, le-leb, eq-eqb, ne_eqb}
use Rattle.ot_layouts.specs.MarkBasePos.{format_of, table_size}
use Rattle.store_rules.specs.Store.{Store, sound, bytes_of}
use Rattle.call_rules.specs.Answers.{first_case}
use Rattle.mark_rules.specs.Table.{glyphs_of, marks_in, parts_readable}
use Rattle.mark_rules.specs.Calls.{read_cases}
use Rattle.mark_checks.specs.Checked.{Known}

module _ (s : Store) (t : ℕ) where
  pub unsound_first : sound s ≡ false → Some 1 ≡ first_case (read_cases s t)
  unfolding first_case read_cases
  unsound_first e = rw e

  pub unused_first : sound s ≡ true → s.object_count ≤ t → Some 2 ≡ first_case (read_cases s t)
  unfolding first_case read_cases
  unused_first e h = rw (e, le-leb s.object_count t h)

  module _ (e : sound s ≡ true) (u : t < s.object_count) where
    pub short_first : length (bytes_of s t) < 2 → Some 3 ≡ first_case (read_cases s t)
    unfolding first_case read_cases
    short_first h = rw (e, lt-leb s.object_count t u, lt-ltb (length (bytes_of s t)) 2 h)

    module _ (l : 2 ≤ length (bytes_of s t)) where
      pub other_first : (format_of (bytes_of s t) ≡ 1 → ⊥) → Some 0 ≡ first_case (read_cases s t)
      unfolding first_case read_cases
      other_first n = rw (e, lt-leb s.object_count t u, le-ltb (length (bytes_of s t)) 2 l, ne_eqb (format_of (bytes_of s t)) 1 n)

      pub length-first : format_of (bytes_of s t) ≡ 1 → (length (bytes_of s t) ≡ table_size → ⊥) → Some 3 ≡ first_case (read_cases s t)
      unfolding first_case read_cases
      length-first f n =
          rw (
            e,
            lt-leb s.object_count t u,
            le-ltb (length (bytes_of s t)) 2 l,
            eq-eqb (format_of (bytes_of s t)) 1 f,
            ne_eqb (length (bytes_of s t)) table_size n,
          )

  module _ {classes : ℕ} (k : Known s t classes) where
    long : 2 ≤ length (bytes_of s t)
    long = omega (arith, k.exactly)

    pub parts_first : parts_readable s t ≡ false → Some 4 ≡ first_case (read_cases s t)
    unfolding first_case read_cases
    parts_first b =
        rw (
          k.sounds,
          lt-leb s.object_count t k.used,
          le-ltb (length (bytes_of s t)) 2 long,
          eq-eqb (format_of (bytes_of s t)) 1 k.known,
          eq-eqb (length (bytes_of s t)) table_size k.exactly,
          b,
        )

    module _ (b : parts_readable s t ≡ true) where
      pub few_first : length (glyphs_of s t) < marks_in s t → Some 5 ≡ first_case (read_cases s t)
      unfolding first_case read_cases
      few_first h =
          rw (
            k.sounds,
            lt-leb s.object_count t k.used,
            le-ltb (length (bytes_of s t)) 2 long,
            eq-eqb (format_of (bytes_of s t)) 1 k.known,
            eq-eqb (length (bytes_of s t)) table_size k.exactly,
            b,
            lt-ltb (length (glyphs_of s t)) (marks_in s t) h,
          )
