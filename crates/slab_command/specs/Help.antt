-- What the program tells of itself.
use Rattle.std.specs.Prelude.{ℕ, List, [], ◌∷◌, codes}
use Rattle.std.specs.List.{flat_map}
use Rattle.iso_defs.specs.Texts.{line}
use Rattle.program.specs.Questions.{version_line}

-- the lines of the help
unfoldable pub help_lines : List (List ℕ)
help_lines =
    codes "isoslab: one slab of the mesh of a volume that is larger than one process takes" ∷
    codes "" ∷
    codes "Usage:" ∷
    codes "  isoslab count --level=V --from=Z [--pad=P] [--last]" ∷
    codes "  isoslab write --level=V --from=Z [--pad=P] [--last] [--format=ply|obj]" ∷
    codes "                --edges=E --centres=C NAME" ∷
    codes "  isoslab head VERTICES TRIANGLES" ∷
    codes "  isoslab [COMMAND] --help" ∷
    codes "  isoslab --version" ∷
    codes "" ∷
    codes "count    reads an NRRD volume from standard input, some slices of a larger one, and" ∷
    codes "         writes how many vertices on edges, centres and triangles of the whole" ∷
    codes "         mesh are this slab's own:" ∷
    codes "             isoslab count --level=5 --from=0 < low.nrrd" ∷
    codes "           --from=Z     the first of its slices, counted from 0 without padding" ∷
    codes "           --last       its last slice is that of the whole; else the two last" ∷
    codes "                        ones are the first two of the next slab" ∷
    codes "           --pad=P      surround the whole with samples P below the level" ∷
    codes "write    does so, and writes its part of the mesh into the files NAME.edges," ∷
    codes "         NAME.centres and NAME.triangles:" ∷
    codes "             isoslab write --level=5 --from=0 --edges=0 --centres=9 low < low.nrrd" ∷
    codes "           --edges=E    how many vertices on edges the slabs below have" ∷
    codes "           --centres=C  and how many all slabs have, with the centres of those" ∷
    codes "                        below" ∷
    codes "           --format=F   ply, which it is without this option, or obj" ∷
    codes "head     reads nothing and writes the head of a PLY file of so many vertices and" ∷
    codes "         triangles:" ∷
    codes "             isoslab head 12 10 > mesh.ply" ∷
    codes "" ∷
    codes "The mesh of the whole is the head, and then the files of all slabs, the lowest" ∷
    codes "first: all edges, all centres and all triangles. OBJ has no head." ∷
    codes "" ∷
    codes "V, the level, is a number with at most three decimals, as 5 or -0.5; the others" ∷
    codes "are whole numbers. Options stand anywhere behind the command, each at most once." ∷
    codes "" ∷
    codes "Exit status; each but 0 puts a line into standard error:" ∷
    codes "  0  done, and the whole output was written" ∷
    codes "  2  the arguments are not a command line" ∷
    codes "  3  the slab, its pad, the level or the numbers are refused" ∷
    codes "  4  reading standard input failed" ∷
    codes "  5  the input has too many bytes" ∷
    codes "  6  writing standard output failed" ∷
    codes "  7  out of memory" ∷
    codes "  8  writing a file failed" ∷
    codes "" ∷
    codes "Manual: README.md and docs/ of the repository isobench." ∷
    []

unfoldable pub help_text : List ℕ
help_text = flat_map line help_lines

-- the line of the version
abbrev pub version_text : List ℕ
version_text = version_line (codes "isoslab")
