-- The worked files, as the definitions read them.
use Rattle.std.proofs.Common.{refl}
use lib.Utf8.{encode}
use Rattle.std.specs.Str.{chars, is_utf8}
use Rattle.json.specs.Lex.{lex, punctuate}
use Rattle.json.specs.Text.{code_unit, content, short_escape}
use Rattle.json.specs.Word.{after_number, word}
use Rattle.dotenvy_exporter.specs.Reserved.{reserved_names}
use Rattle.dotenvy_exporter.specs.Worked.{HaveDockerFiles, HaveExecFiles, HaveJsonFiles, HaveKubernetesFiles}
use Rattle.dotenvy_exporter.specs.Worked.{HaveShellFiles, HaveSystemdByteFiles, HaveSystemdFiles}

pub docker : HaveDockerFiles
unfolding encode is_utf8 chars
docker = refl

pub kubernetes : HaveKubernetesFiles
unfolding encode is_utf8 chars
kubernetes = refl

pub systemd : HaveSystemdFiles
unfolding encode is_utf8 chars
systemd = refl

pub systemd_bytes : HaveSystemdByteFiles
unfolding encode is_utf8 chars
systemd_bytes = refl

pub shell : HaveShellFiles
unfolding encode is_utf8 chars reserved_names
shell = refl

pub exec : HaveExecFiles
unfolding encode is_utf8 chars reserved_names
exec = refl

pub json : HaveJsonFiles
unfolding encode is_utf8 chars lex punctuate content code_unit short_escape word after_number
json = refl
