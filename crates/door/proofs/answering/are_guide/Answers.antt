-- `door::answering::are_guide` meets its contract.
use Rattle.door.proofs.answering.GuideWords.{too_short, tested}
use Rattle.door.proofs.answering.are_guide.Goals as goal

pub returns-then-words-lt-GUIDE : goal.returns-then-words-lt-GUIDE
returns-then-words-lt-GUIDE c = too_short c.args.words.now c.if-words-lt-GUIDE.true

pub returns : goal.returns
returns c =
    tested c.args.words.now
    c.if-words-lt-GUIDE.false
