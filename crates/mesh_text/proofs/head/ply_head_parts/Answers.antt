use Rattle.std.proofs.Common.{rules}
use Rattle.mesh_text.proofs.Heads.{head_joined}
use Rattle.mesh_text.proofs.head.ply_head_parts.Goals as goal

pub returns : goal.returns
returns c =
    head_joined c.new-text.result.bytes c.put_count.new.text.bytes c.put_count-2.new.text.bytes c.push_str.new.self.bytes c.args.vertices c.args.faces
    (search rules) c.put_count.ensures.text c.put_count-2.ensures.text c.push_str.ensures.bytes
