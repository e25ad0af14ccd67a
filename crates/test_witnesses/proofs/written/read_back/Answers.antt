use Rattle.test_witnesses.proofs.WrittenPieces.{pairs_back}
use Rattle.test_witnesses.proofs.written.read_back.Goals as goal

pub returns : goal.returns
returns c =
    pairs_back c.args.dialect c.args.pairs.now c.args.pieces.now c.new.result c.in_ok-file.file c.args.env.now.names
    c.in_ok-given.given.items c.written_comes_back.ensures.0 c.requires.keys c.requires.written c.new.ensures
    c.in_ok-file.ensures.ok c.in_ok-given.ensures.gives
