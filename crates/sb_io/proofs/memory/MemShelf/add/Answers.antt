use Rattle.std.proofs.Common.{refl, sym, rules, ◌≡◌}
use Rattle.sb_io.specs.Shelf.{Missing}
use Rattle.sb_io.proofs.Files.{file_in-push}
use Rattle.sb_io.proofs.memory.MemShelf.add.Goals as goal

pub returns-clause-ok : goal.returns-clause-ok
returns-clause-ok c =
    let name : c.in_ok-name.name.items ≡ c.args.name.now = search rules in
    let bytes : c.in_ok-bytes.bytes.items ≡ c.args.bytes.now = search rules in
    record {
      content = λ any. rw (c.in_ok-push.ensures.items, sym name, sym bytes) (file_in-push Missing c.args.self.now.files.items (record { name = c.in_ok-name.name; bytes = c.in_ok-bytes.bytes }) any);
      faults = λ any. refl;
    }
