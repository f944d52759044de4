use Rattle.rohc_loop.proofs.ReadLemmas.{all_read}
use Rattle.rohc_loop.proofs.reading.read_file.Goals as goal

pub returns : goal.returns
returns g c =
    all_read _ _ _ _ c.args.path.now c.args.longest c.read_whole-read.result c.in-Ok.ensures.told c.read_whole-read.ensures c.close.ensures.told
