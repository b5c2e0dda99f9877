mod WriteLaws
mod AskLaws
mod ExchangeLaws
mod ResponseLaws
mod HearLaws
mod ConversationLaws
