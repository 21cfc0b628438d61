-- Which modules words name, and the same words with more of them.
use Rattle.std.specs.Prelude.{◌++◌, List, []}
use Rattle.yspec.specs.text.Text.{Text}
use Rattle.yspec_wide.specs.Language.{Language, core}
use Rattle.yspec_run.specs.Output.{Request, compile, draw, draw_all, edit, explain, validate}
use Rattle.yspec_opening.specs.Opening.{Asked, Opening, report, session}

-- the language in which modules are read; to explain codes reads none
abbrev pub language_in : Request → Language
language_in (explain words) = core
language_in (compile language modules) = language
language_in (draw language name modules) = language
language_in (draw_all language modules) = language
language_in (validate language options document modules) = language
language_in (edit language options document script modules) = language

abbrev pub modules_in : Request → List Text
modules_in (explain words) = []
modules_in (compile language modules) = modules
modules_in (draw language name modules) = modules
modules_in (draw_all language modules) = modules
modules_in (validate language options document modules) = modules
modules_in (edit language options document script modules) = modules

-- with more behind them
abbrev pub request_with : Request → List Text → Request
request_with (explain words) more = explain words
request_with (compile language modules) more = compile language (modules ++ more)
request_with (draw language name modules) more = draw language name (modules ++ more)
request_with (draw_all language modules) more = draw_all language (modules ++ more)
request_with (validate language options document modules) more = validate language options document (modules ++ more)
request_with (edit language options document script modules) more = edit language options document script (modules ++ more)

abbrev pub opening_with : Opening → List Text → Opening
opening_with o more = record o { modules = o.modules ++ more }

abbrev pub language_asked : Asked → Language
language_asked (report by_lines request) = language_in request
language_asked (session o) = o.language

abbrev pub modules_asked : Asked → List Text
modules_asked (report by_lines request) = modules_in request
modules_asked (session o) = o.modules

abbrev pub asked_with : Asked → List Text → Asked
asked_with (report by_lines request) more = report by_lines (request_with request more)
asked_with (session o) more = session (opening_with o more)
