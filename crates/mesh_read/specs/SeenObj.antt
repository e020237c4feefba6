-- What the code holds, without where it lies in memory. No public definition rests on it.
use Rattle.mesh_read.specs.declared.obj.ObjLine.{ObjLine}
use Rattle.mesh_read.specs.declared.obj.ObjLine.TheVariants as seen
use Rattle.mesh_read.specs.Obj.{Saying, IsVertex, IsFace, IsUnread}
use Rattle.text_lines.specs.Words.{words_of}

-- a line, without where it lies in memory
abbrev pub seen_line : ObjLine → Saying
seen_line seen.Vertex = IsVertex
seen_line (seen.Face references) = IsFace (words_of references.now)
seen_line seen.Unread = IsUnread
