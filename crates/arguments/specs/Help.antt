-- What the program tells of itself.
use Rattle.std.specs.Prelude.{ℕ, List, [], ◌∷◌, codes}
use Rattle.std.specs.List.{flat_map}
use Rattle.iso_defs.specs.Texts.{line}
use Rattle.program.specs.Questions.{version_line}

-- the lines of the help
unfoldable pub help_lines : List (List ℕ)
help_lines =
    codes "isobench: a workbench for isosurfaces of integer volumes" ∷
    codes "" ∷
    codes "Usage:" ∷
    codes "  isobench points --level=V" ∷
    codes "  isobench extract --level=V [--pad=P] [--format=ply|obj]" ∷
    codes "  isobench session --level=V [--pad=P] [--bricks=N] [--pages=N] NAME" ∷
    codes "  isobench check ply|obj" ∷
    codes "  isobench gen SEED NX NY NZ" ∷
    codes "  isobench soak SEED" ∷
    codes "  isobench [COMMAND] --help" ∷
    codes "  isobench --version" ∷
    codes "" ∷
    codes "points   reads an NRRD volume from standard input and writes the points at which" ∷
    codes "         the surface crosses lattice edges, as PLY without faces:" ∷
    codes "             isobench points --level=5 < corner.nrrd > points.ply" ∷
    codes "extract  reads a volume and writes its mesh:" ∷
    codes "             isobench extract --level=5 --pad=0 < corner.nrrd > corner.ply" ∷
    codes "           --pad=P      put one more layer round the volume, of samples P below" ∷
    codes "                        the level, so that the mesh has no border" ∷
    codes "           --format=F   ply, which it is without this option, or obj" ∷
    codes "session  opens the volume in the file NAME, reads the lines of a script from" ∷
    codes "         standard input and writes a reply to each; lines also write files:" ∷
    codes "             echo report | isobench session --level=5 corner.nrrd" ∷
    codes "           --pad=P      as for extract" ∷
    codes "           --bricks=N   keep the mesh of at most N bricks (1 to 65536; 4096)" ∷
    codes "           --pages=N    in at most N pages (16 to 1048576; 65536)" ∷
    codes "check    reads a mesh text and writes whether it is a surface:" ∷
    codes "             isobench check ply < corner.ply" ∷
    codes "gen      reads nothing and writes the volume of a seed, in these sizes:" ∷
    codes "             isobench gen 1 64 64 64 > blocks.nrrd" ∷
    codes "soak     reads nothing, runs the script of a seed as a session does and writes" ∷
    codes "         ten of its replies, and the file soak.ply:" ∷
    codes "             isobench soak 7" ∷
    codes "" ∷
    codes "V, the level, is a number with at most three decimals, as 5 or -0.5; the others" ∷
    codes "are whole numbers. Options stand anywhere behind the command, each at most once." ∷
    codes "" ∷
    codes "Exit status; each but 0 and 1 puts a line into standard error:" ∷
    codes "  0  done, and the whole output was written" ∷
    codes "  1  check: the mesh is not a surface" ∷
    codes "  2  the arguments are not a command line" ∷
    codes "  3  the volume, its pad or the level is refused" ∷
    codes "  4  reading standard input failed" ∷
    codes "  5  the input, or the volume file of a session, has too many bytes" ∷
    codes "  6  writing standard output failed" ∷
    codes "  7  out of memory" ∷
    codes "  8  the volume file of a session could not be read" ∷
    codes "  9  the mesh text is refused" ∷
    codes "" ∷
    codes "Manual: README.md and docs/ of the repository isobench." ∷
    []

unfoldable pub help_text : List ℕ
help_text = flat_map line help_lines

-- the line of the version
abbrev pub version_text : List ℕ
version_text = version_line (codes "isobench")
