mod WriteLaws
mod ToldLaws
mod NameLaws
mod NodeLaws
mod TurnLaws
mod ConsoleLaws
mod Cases
