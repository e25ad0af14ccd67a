use Rattle.test_witnesses.proofs.WrittenPieces.{loads_back}
use Rattle.test_witnesses.proofs.written.load_back.Goals as goal

pub returns : goal.returns
returns c =
    loads_back c.args.dialect c.args.pairs.now c.args.pieces.now c.new.result c.in_ok-with_dialect.field-0
    c.args.env.now.names c.load_override.new.env.names c.load_override.result c.written_comes_back.ensures.1
    c.requires.keys c.requires.written c.new.ensures c.in_ok-with_dialect.ensures.ok c.load_override.ensures.told
