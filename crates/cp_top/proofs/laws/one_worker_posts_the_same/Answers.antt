use Rattle.cp_top.proofs.OneWorker.{posts_the_same}
use Rattle.cp_top.proofs.laws.one_worker_posts_the_same.Goals as goal

pub returns : goal.returns
returns c = posts_the_same
