-- `uppers` meets its contract: by the law of a mask of seven bits.
use Rattle.tag_words.proofs.Words.{uppers_bytewise}
use Rattle.tag_words.proofs.uppers.Goals as goal

pub returns : goal.returns
returns c = uppers_bytewise c.args.fields
