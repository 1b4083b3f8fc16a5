-- `glyph_set::words::starts` meets its contract: the ones of the bits that have none before them. Assumes nothing.
use borrow.Author.Rules.{rules}
use Prim.Native.Nat.{◌/◌, ◌^◌}
use Rattle.glyph_set.proofs.WordBits.{word_starts, ones_fit}
use Rattle.glyph_set.proofs.words.starts.Goals as goal

pub overflow_cast-result : goal.overflow_cast-result
overflow_cast-result c = record { fits = ones_fit c.args.word _ (search rules) }

pub returns : goal.returns
returns c = word_starts c.args.word (c.args.prior / 2 ^ 63) (search rules) (search rules)
