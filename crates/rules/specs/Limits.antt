-- The numbers of document 01, each once.
use Rattle.std.specs.Prelude.{ℕ, ◌+◌, ◌*◌}

abbrev pub file_limit : ℕ
file_limit = 32768

abbrev pub party_limit : ℕ
party_limit = 8

abbrev pub term_limit : ℕ
term_limit = 1024

-- commands of a file of 32,768 bytes, 4 bytes at least each
abbrev pub command_limit : ℕ
command_limit = 8192

-- steps from a certificate to an endorsement certificate
abbrev pub depth_limit : ℕ
depth_limit = 8

-- state bytes of a term
abbrev pub row_width : ℕ
row_width = 8

abbrev pub state_bytes : ℕ
state_bytes = term_limit * row_width

-- places of a path: a certificate and depth_limit parents
abbrev pub path_places : ℕ
path_places = depth_limit + 1

-- a 43 (request 4 of document 02): its pairs, the bytes of one, and the number in both fields of an empty one, which is no term's
abbrev pub pair_count : ℕ
pair_count = 4

abbrev pub pair_width : ℕ
pair_width = 4

abbrev pub empty_field : ℕ
empty_field = 0xFFFF

-- registers of a device's TPM (request 6 of document 02); an empty one shows empty_field
abbrev pub register_count : ℕ
register_count = 24

-- bytes of a party's registers, two each, and of those of all parties
abbrev pub register_width : ℕ
register_width = 2 * register_count

abbrev pub register_bytes : ℕ
register_bytes = party_limit * register_width

-- roles of parties
abbrev pub device : ℕ
device = 0

abbrev pub tpm_maker : ℕ
tpm_maker = 1

abbrev pub oem_desk : ℕ
oem_desk = 2

abbrev pub owner_desk : ℕ
owner_desk = 3

abbrev pub role_count : ℕ
role_count = 4
