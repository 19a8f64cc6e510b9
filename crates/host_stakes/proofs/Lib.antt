mod Stakes
