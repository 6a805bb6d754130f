-- The status and the words of each small reader's answer, and how they are laid out.
use Rattle.small_meaning.specs.Answer.{Answer}
use Rattle.export_words.specs.Exported.{Exported, value, only, absent, default, unsigned, signed_from}
use Rattle.export_words.specs.declared.Layout.{Layout}

-- the fields
abbrev pub small_exported : Answer → Exported
small_exported (Answer.value ws) = value ws
small_exported Answer.default = default
small_exported Answer.absent = absent
small_exported (Answer.refused n) = only n

-- `chad`: the matrix, signed
abbrev pub chad_layout : Layout
chad_layout = signed_from 9 0 9

-- `sig `: the signature
abbrev pub sig_layout : Layout
sig_layout = unsigned 1

-- `dtim`: the twelve bytes
abbrev pub date_layout : Layout
date_layout = unsigned 12

-- `meas`: observer, backing, which is signed, geometry, flare, illuminant
abbrev pub meas_layout : Layout
meas_layout = signed_from 7 1 4

-- `view`: illuminant and surround, which are signed, and the number
abbrev pub view_layout : Layout
view_layout = signed_from 7 0 6

-- `XYZ `: X, Y and Z, signed
abbrev pub xyz_layout : Layout
xyz_layout = signed_from 3 0 3

-- `cicp`: the four codes
abbrev pub cicp_layout : Layout
cicp_layout = unsigned 4
