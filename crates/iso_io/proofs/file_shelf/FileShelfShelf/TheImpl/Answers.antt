use Rattle.std.proofs.Common.{refl, inl}
use Rattle.iso_io.proofs.Counting.{untold, rose_if_failed}
use Rattle.iso_io.proofs.file_shelf.FileShelfShelf.TheImpl.Goals as goal

pub read-tells : goal.read-tells
read-tells g c = record {
  same = refl;
  later = c.ensures.later;
  bytes = untold c.result;
  within = c.ensures.within;
  failed = λ e. inl (rose_if_failed c.result c.args.self.now c.new.self.now c.ensures.faults e);
  missing = λ lacks. absurd lacks;
  uncounted = λ sound. absurd (sound tt);
  too_long = λ _. tt;
  limit = c.ensures.limit;
}
