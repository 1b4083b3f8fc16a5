-- "Figures to check against": "W1 to W12 are proved jointly, as a single check over their list", and beside them what two of them give in edition 2. Stores are sound, their pair sets sorted and of exact
-- length, and each goes through the whole outcome of a cut plan and of a split. Assumes nothing.
use Prim.Native.Nat.{ℕ, zero, suc, ◌+◌, ◌-◌, ◌*◌, ◌/◌, ◌%◌}
use mathlib.Core.Path.{◌≡◌, refl}
use mathlib.Core.Bool.{Bool, true, ◌&&◌}
use mathlib.Core.List.{List, [], ◌∷◌, ◌++◌}
use lib.ListN.{length, replicate}
use lib.Dec.{eqb}
use Rattle.folds.specs.Folds.{upto, run}
use Rattle.folds.specs.Lists.{join}
use Rattle.folds.proofs.Compared as compared
use Rattle.folds.proofs.Compared.{same, every}
use Rattle.ot_layouts.specs.Numbers.{u16_at, be16, words}
use Rattle.ot_layouts.specs.Values.{field_count, devices}
use Rattle.ot_layouts.specs.Coverage.{coverage_bytes}
use Rattle.ot_layouts.specs.ClassDef.{class_def_bytes}
use Rattle.store_rules.specs.Store.{Store, Link, per_link, size_of}
use Rattle.store_rules.specs.Appended.{link, rows_from, row_numbers}
use Rattle.cut_rules.specs.Cuts.{cuts_of}
use Rattle.call_rules.specs.Settings.{first_edition, second_edition}
use Rattle.call_rules.specs.Scratch.{Scratch}
use Rattle.call_rules.specs.Outcomes.{Outcome}
use Rattle.pair_rules.specs.Rules.{bare_rule}
use Rattle.pair_rules.specs.Table.{cut_places}
use Rattle.pair_rules.specs.Calls.{split_call, plan_call}
use Rattle.pair_rules.specs.Computing as definitions

-- ---- W1 to W6

-- written as format f, in n bytes
unfoldable pub written_as : ℕ → ℕ → List ℕ → Bool
written_as f n b = eqb (u16_at b 0) f && eqb (length b) n

-- ---- stores

-- these objects and links, with room for one cut
unfoldable pub store_of : List (List ℕ) → List Link → Store
store_of objects links =
    record {
      bytes = join objects ++ replicate 5000 0;
      objects = rows_from 0 objects ++ replicate 10 0;
      links = row_numbers links ++ replicate (3 * per_link) 0;
      byte_count = length (join objects);
      object_count = length objects;
      link_count = length links;
    }

-- a format 1 table of n sets, without values
unfoldable pub table_of : ℕ → List ℕ
table_of n = words (1 ∷ 0 ∷ 0 ∷ 0 ∷ n ∷ []) ++ replicate (2 * n) 0

-- n records without values, for second glyphs from g on
unfoldable pub records : ℕ → ℕ → List ℕ
records zero g = []
records (suc n) g = g / 256 ∷ g % 256 ∷ records n (g + 1)

-- a pair set of n records: 2 + 2n bytes
unfoldable pub set_of : ℕ → List ℕ
set_of n = be16 n ++ records n 0

-- W7: "sets of 30,000, 30,000, 30,000 under W3"
unfoldable pub store7 : Store
store7 =
    store_of (table_of 3 ∷ coverage_bytes (10 ∷ 20 ∷ 30 ∷ []) ∷ set_of 14999 ∷ set_of 14999 ∷ set_of 14999 ∷ [])
    (link 0 2 1 ∷ link 0 10 2 ∷ link 0 12 3 ∷ link 0 14 4 ∷ [])

-- W9: "one set of 65,518, coverage 6"
unfoldable pub store9 : Store
store9 = store_of (table_of 1 ∷ coverage_bytes (10 ∷ []) ∷ set_of 32758 ∷ []) (link 0 2 1 ∷ link 0 10 2 ∷ [])

-- W10: "A 100, B 30,000, C 20,000, A and B both lead to D 40,000; coverage 10"
unfoldable pub store10 : Store
store10 =
    store_of (table_of 3 ∷ coverage_bytes (10 ∷ 20 ∷ 30 ∷ []) ∷ set_of 49 ∷ set_of 14999 ∷ set_of 9999 ∷ replicate 40000 0 ∷ [])
    (link 0 2 1 ∷ link 0 10 2 ∷ link 0 12 3 ∷ link 0 14 4 ∷ link 2 4 5 ∷ link 3 4 5 ∷ [])

-- W11: "one 40,000 set in two slots, coverage 8"
unfoldable pub store11 : Store
store11 = store_of (table_of 2 ∷ coverage_bytes (10 ∷ 20 ∷ []) ∷ set_of 19999 ∷ []) (link 0 2 1 ∷ link 0 10 2 ∷ link 0 12 2 ∷ [])

-- W12: "formats 0004 and 0, 170 rows, 200 columns, glyph 100+c in class c, class definition 2 of 410 bytes"
unfoldable pub store12 : Store
store12 =
    store_of
    ((words (2 ∷ 0 ∷ 4 ∷ 0 ∷ 0 ∷ 0 ∷ 170 ∷ 200 ∷ []) ++ replicate 68000 0)
    ∷ coverage_bytes (run 100 170)
    ∷ class_def_bytes (upto (λ c. record { glyph = 100 + c; class = c }) 170)
    ∷ words (1 ∷ 0 ∷ 202 ∷ run 0 202)
    ∷ [])
    (link 0 2 1 ∷ link 0 8 2 ∷ link 0 10 3 ∷ [])

-- ---- outcomes

-- enough for each of the tables
unfoldable pub scratch : Scratch
scratch = record { walk = replicate 12 5; set = replicate 8192 5; glyphs = replicate 170 5; classes = replicate 170 5; cuts = replicate 170 5 }

-- a plan of these cuts
unfoldable pub plans : List ℕ → Outcome → Bool
plans cs o = eqb o.answer 0 && eqb o.count (length cs) && same o.list (cs ++ replicate (2 - length cs) 9)

-- table 0 was split in two: so many new bytes, a kept table and a new one of these lengths
unfoldable pub splits : ℕ → ℕ → ℕ → Store → Outcome → Bool
splits bytes kept new s o =
    eqb o.answer 0 && eqb o.count 1 && same o.list (s.object_count ∷ 9 ∷ []) && eqb o.store.byte_count (s.byte_count + bytes)
    && eqb (size_of o.store 0) kept && eqb (size_of o.store s.object_count) new

-- nothing was split
unfoldable pub whole : Store → Outcome → Bool
whole s o = eqb o.answer 0 && eqb o.count 0 && same o.list (9 ∷ 9 ∷ []) && eqb o.store.byte_count s.byte_count

-- plan and split of table 0
unfoldable pub planned : List ℕ → Store → Bool
planned cs s = plans cs (plan_call first_edition s 0 scratch (9 ∷ 9 ∷ []))

unfoldable pub split_into : ℕ → ℕ → ℕ → Store → Bool
split_into bytes kept new s = splits bytes kept new s (split_call first_edition s 0 scratch (9 ∷ 9 ∷ []))

unfoldable pub kept_whole : Store → Bool
kept_whole s = whole s (split_call first_edition s 0 scratch (9 ∷ 9 ∷ []))

-- W1 to W12, and in edition 2 "W10 then gives cuts 1 and 2, and W9 none"; W8's set has an odd length, as no pair set has, and is one of the rule over sizes
unfoldable pub figures : List Bool
figures =
    (eqb (field_count 0x00F5) 6 && same (devices 0x00F5) (2 ∷ 3 ∷ 4 ∷ 5 ∷ []))
    ∷ eqb (field_count 0xFF00) 0
    ∷ written_as 1 10 (coverage_bytes (10 ∷ 20 ∷ 30 ∷ []))
    ∷ written_as 2 10 (coverage_bytes (run 100 8))
    ∷ written_as 1 10 (coverage_bytes (5 ∷ 6 ∷ 7 ∷ []))
    ∷ (written_as 1 4 (coverage_bytes []) && written_as 2 4 (class_def_bytes []))
    ∷ (planned (2 ∷ []) store7 && split_into 26 14 12 store7)
    ∷ same (cuts_of (bare_rule first_edition (65517 ∷ []) 6)) []
    ∷ (planned (0 ∷ []) store9 && split_into 22 10 12 store9)
    ∷ (planned (1 ∷ []) store10 && split_into 28 12 14 store10)
    ∷ (planned [] store11 && kept_whole store11)
    ∷ (planned (162 ∷ []) store12 && split_into 3584 64816 3216 store12)
    ∷ same (cut_places second_edition store10 0) (1 ∷ 2 ∷ [])
    ∷ same (cut_places second_edition store9 0) []
    ∷ []

pub figures_hold : every figures ≡ true
unfolding definitions.computes compared.computes written_as store_of table_of records set_of store7 store9 store10 store11 store12 scratch plans splits whole planned split_into kept_whole figures
figures_hold = refl
